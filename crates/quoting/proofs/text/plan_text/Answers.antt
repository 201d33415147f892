use Rattle.std.proofs.Common.{◌≡◌, ℕ, ◌+◌, ◌/◌, ◌%◌, ◌^◌, ◌<◌, List, [], ◌∷◌, ◌++◌, length, get_or, ℤ, string_bytes, Bor, w64, SFits, to_z, of_z, sym, subst, ap, ◌∙◌, add-one, arith, rules}
use Rattle.std.proofs.lemmas.Iterator.Consumers.{YieldsList-at, YieldsList-turn, YieldsList-end}
use Rattle.std.proofs.lemmas.Int.{to_z-of_z}
use Rattle.std.proofs.lemmas.List.{length_push}
use Rattle.std.specs.Slice.Iter.{iter_rest}
use Rattle.fields.specs.Numerals.{numeral}
use Rattle.quoting.specs.Printing.{plan_line, plan_lines}
use Rattle.quoting.proofs.Lines.{entry_printed, count_printed, yields_entries, entry_at, length-entries}
use Rattle.quoting.proofs.text.plan_text.Goals as goal

pub loop-i-init : goal.loop-i-init
loop-i-init c = c.new-out.ensures.bytes

pub loop-i-preserved : goal.loop-i-preserved
loop-i-preserved c =
    let k = c.args.quote.conditions in
    let vs : List ℤ = c.args.values.now in
    let rs : List ℕ = c.args.remedies.now in
    let n = c.args.quote.entries in
    let m = length c.loop-i.yielded in
    let i = c.in-Some.i in
    let v = c.in-Some.field-0-1-0.now in
    let r = c.in-Some.field-0-1-1.now in
    let item : ℕ × (Bor ℤ × Bor ℕ) = (i, (c.in-Some.field-0-1-0, c.in-Some.field-0-1-1)) in
    let first = ap iter_rest c.zip.ensures.first ∙ c.iter.ensures.rest in
    let items = yields_entries vs rs n c.zip.result c.take.result c.enumerate-i-items.result first c.zip.ensures.second.0 c.take.ensures.source c.take.ensures.count c.enumerate-i-items.ensures.source c.enumerate-i-items.ensures.count in
    let road = YieldsList-at c.into_iter-i-iterator.ensures.into_iter_gives items in
    let turn = YieldsList-turn road c.loop-i.yielded c.loop-i.i-iterator c.loop-i.yielded_by c.next.result c.next.new.self item c.in-Some.is c.next.ensures.steps in
    let place = entry_at vs rs n m (i, (v, r)) turn in
    let copied : SFits w64 c.in-Some.value = search rules in
    let value : SFits w64 v = subst (SFits w64) (sym c.in-Some.value-is) copied in
    let passed = to_z w64 (of_z w64 v) in
    let back : passed ≡ v = to_z-of_z w64 v value in
    let byte : get_or rs m 0 < 2 ^ 8 = (c.type_inv.remedies m).fits in
    let remedy : r < 2 ^ 64 = omega (arith, byte, ap (λ (x : ℕ × (ℤ × ℕ)). x.1.1) place) in
    c.in_ok-writeln.ensures.bytes
    ∙ ap (λ bs. string_bytes c.loop-i.out ++ bs) (entry_printed (i / k + 1) (i % k) r passed (search rules) (search rules) remedy (subst (SFits w64) (sym back) value) ∙ ap (plan_line (i / k + 1) (i % k) r) back)
    ∙ ap (λ bs. bs ++ plan_line (i / k + 1) (i % k) r v) c.loop-i.invariant
    ∙ ap (λ (x : ℕ × (ℤ × ℕ)). plan_lines k vs rs m ++ plan_line (x.0 / k + 1) (x.0 % k) x.1.1 x.1.0) place
    ∙ ap (plan_lines k vs rs) (sym (length_push c.loop-i.yielded item ∙ add-one m))

pub returns : goal.returns
returns c =
    let k = c.args.quote.conditions in
    let n = c.args.quote.entries in
    let vs : List ℤ = c.args.values.now in
    let rs : List ℕ = c.args.remedies.now in
    let first = ap iter_rest c.zip.ensures.first ∙ c.iter.ensures.rest in
    let items = yields_entries vs rs n c.zip.result c.take.result c.enumerate-i-items.result first c.zip.ensures.second.0 c.take.ensures.source c.take.ensures.count c.enumerate-i-items.ensures.source c.enumerate-i-items.ensures.count in
    let road = YieldsList-at c.into_iter-i-iterator.ensures.into_iter_gives items in
    let end = YieldsList-end road c.loop-i.yielded c.loop-i.i-iterator c.loop-i.yielded_by c.next.result c.next.new.self c.in-None.is c.next.ensures.steps in
    let all : length c.loop-i.yielded ≡ n = end.1 ∙ length-entries vs rs n (search rules) (search rules) in
    c.in_ok-writeln-2.ensures.bytes
    ∙ ap (λ bs. string_bytes c.loop-i.out ++ bs) (count_printed n (search rules))
    ∙ ap (λ bs. bs ++ (84 ∷ 9 ∷ (numeral n ++ (10 ∷ [])))) (c.loop-i.invariant ∙ ap (plan_lines k vs rs) all)
