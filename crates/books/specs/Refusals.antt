-- What a refusal to make a book is told as.
use Rattle.std.specs.Prelude.{ℕ}
use Rattle.books.specs.declared.refusal.Table.{Table}
use Rattle.books.specs.declared.refusal.Table.TheVariants.{Outcomes, Amounts, Worths}
use Rattle.books.specs.declared.refusal.MakingRefusal.{MakingRefusal}
use Rattle.books.specs.declared.refusal.MakingRefusal.TheVariants.{Size, Entry}

abbrev pub table_number : Table → ℕ
table_number Outcomes = 1
table_number Amounts = 2
table_number Worths = 3

abbrev pub making_number : MakingRefusal → ℕ
making_number Size = 12
making_number (Entry t i) = 13

-- up to three places, 0 where there is none
abbrev pub making_places : MakingRefusal → ℕ × ℕ × ℕ
making_places Size = (0, 0, 0)
making_places (Entry t i) = (table_number t, i, 0)
