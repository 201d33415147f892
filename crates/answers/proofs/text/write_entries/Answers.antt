use Rattle.std.proofs.Common.{◌≡◌, ℕ, ◌+◌, ◌/◌, ◌%◌, ◌^◌, ◌<◌, List, ◌++◌, length, map, get_or, ℤ, string_bytes, Bor, w64, SFits, to_z, of_z, sym, subst, ap, ◌∙◌, append_assoc, append-nil, arith, rules}
use Rattle.std.proofs.lemmas.Iterator.Consumers.{YieldsList-at, YieldsList-turn, YieldsList-end}
use Rattle.std.proofs.lemmas.Int.{to_z-of_z}
use Rattle.std.specs.Slice.Iter.{iter_rest}
use Rattle.quoting.specs.Printing.{plan_line}
use Rattle.quoting.proofs.Lines.{entry_printed, yields_entries, entry_at}
use Rattle.answers.specs.Printing.{entry_lines}
use Rattle.answers.proofs.Written.{entry_of, one_entry}
use Rattle.answers.proofs.text.write_entries.Goals as goal

pub loop-i-init : goal.loop-i-init
loop-i-init c = sym (append-nil (string_bytes c.args.out.now))

pub loop-i-preserved : goal.loop-i-preserved
loop-i-preserved c =
    let k = c.args.sizes.conditions in
    let vs : List ℤ = c.args.values.now in
    let rs : List ℕ = c.args.remedies.now in
    let n = c.args.entries in
    let m = length c.loop-i.yielded in
    let i = c.in-Some.i in
    let v = c.in-Some.field-0-1-0.now in
    let r = c.in-Some.field-0-1-1.now in
    let item : ℕ × (Bor ℤ × Bor ℕ) = (i, (c.in-Some.field-0-1-0, c.in-Some.field-0-1-1)) in
    let first = ap iter_rest c.zip.ensures.first ∙ c.iter.ensures.rest in
    let items = yields_entries vs rs n c.zip.result c.take.result c.enumerate-i-items.result first c.zip.ensures.second.0 c.take.ensures.source c.take.ensures.count c.enumerate-i-items.ensures.source c.enumerate-i-items.ensures.count in
    let road = YieldsList-at c.into_iter-i-iterator.ensures.into_iter_gives items in
    let turn = YieldsList-turn road c.loop-i.yielded c.loop-i.i-iterator c.loop-i.yielded_by c.next.result c.next.new.self item c.in-Some.is c.next.ensures.steps in
    let place = entry_at vs rs n m (i, (v, r)) turn in
    let copied : SFits w64 c.in-Some.value = search rules in
    let value : SFits w64 v = subst (SFits w64) (sym c.in-Some.value-is) copied in
    let passed = to_z w64 (of_z w64 v) in
    let back : passed ≡ v = to_z-of_z w64 v value in
    let byte : get_or rs m 0 < 2 ^ 8 = (c.type_inv.remedies m).fits in
    let remedy : r < 2 ^ 64 = omega (arith, byte, ap (λ (x : ℕ × (ℤ × ℕ)). x.1.1) place) in
    c.in_ok-writeln.ensures.bytes
    ∙ ap (λ bs. string_bytes c.loop-i.out ++ bs) (entry_printed (i / k + 1) (i % k) r passed (search rules) (search rules) remedy (subst (SFits w64) (sym back) value) ∙ ap (plan_line (i / k + 1) (i % k) r) back)
    ∙ ap (λ bs. bs ++ plan_line (i / k + 1) (i % k) r v) c.loop-i.invariant
    ∙ append_assoc (string_bytes c.args.out.now) (entry_lines k (map entry_of c.loop-i.yielded)) (plan_line (i / k + 1) (i % k) r v)
    ∙ ap (λ bs. string_bytes c.args.out.now ++ bs) (sym (one_entry k c.loop-i.yielded item))

pub returns : goal.returns
returns c =
    let k = c.args.sizes.conditions in
    let vs : List ℤ = c.args.values.now in
    let rs : List ℕ = c.args.remedies.now in
    let n = c.args.entries in
    let first = ap iter_rest c.zip.ensures.first ∙ c.iter.ensures.rest in
    let items = yields_entries vs rs n c.zip.result c.take.result c.enumerate-i-items.result first c.zip.ensures.second.0 c.take.ensures.source c.take.ensures.count c.enumerate-i-items.ensures.source c.enumerate-i-items.ensures.count in
    let road = YieldsList-at c.into_iter-i-iterator.ensures.into_iter_gives items in
    let end = YieldsList-end road c.loop-i.yielded c.loop-i.i-iterator c.loop-i.yielded_by c.next.result c.next.new.self c.in-None.is c.next.ensures.steps in
    c.loop-i.invariant ∙ ap (λ es. string_bytes c.args.out.now ++ entry_lines k es) end.0
