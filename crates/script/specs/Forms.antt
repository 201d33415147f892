-- The first fault of a line of a script, or what it says, computed.
use Rattle.std.specs.Prelude.{ℕ, cond, List, length, Some, None, Option, ◌==◌}
use Rattle.fields.specs.Numerals.{Bytes}
use Rattle.fields.specs.Lines.{split}
use Rattle.fields.specs.Checking.{reported, Checked, and_then, check_fields}
use Rattle.fields.specs.Checking.Checked.{good, faulty}
use Rattle.script.specs.declared.word.Word.{Word}
use Rattle.script.specs.Words.{word_in}
use Rattle.script.specs.Orders.{Order, form, order_from}

-- the word of line k: 20
abbrev pub known : (k : ℕ) → Option Word → Checked Word
known k None = faulty (reported 20 k 1)
known k (Some w) = good w

-- the fields after the word, one by one
abbrev pub check_rest : (k : ℕ) → Word → List Bytes → Checked Order
check_rest k w fs = and_then (check_fields k 2 (form w (length fs)) fs) (λ zs. good (order_from w zs))

-- line k, which is ended: 20, then 21, then 22 and 23 (or 20, of a letter) of each field
abbrev pub check_order : (k : ℕ) → Bytes → Checked Order
check_order k t =
    let p = split 9 t in
    and_then (known k (word_in p.0)) (λ w.
    cond (length p.1 == length (form w (length p.1))) (check_rest k w p.1) (faulty (reported 21 k 0)))
