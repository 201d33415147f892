use Rattle.std.proofs.Common.{◌≡◌, length, map, sym, ap, ◌∙◌, arith}
use Rattle.std.proofs.lemmas.List.{map-append}
use Rattle.std.proofs.lemmas.Bool.Decides.{nat_tests}
use Rattle.script.specs.Scripts.{said_of}
use Rattle.script.proofs.Parting.{none_unended, one_unended}
use Rattle.script.proofs.script.lines_of.Goals as goal
use Rattle.script.proofs.script.lines_of.Goals.{then-not-is_empty+in_ok-push-2, else-not-is_empty}

pub returns : goal.returns
returns c =
    elim c.if-not-is_empty.branch [
      | then-not-is_empty+in_ok-push-2 w ↦
          let t = w.if-not-is_empty.true in
          let some : length c.loop-line.rest.now ≡ 0 → ⊥ = λ e. grind (arith, nat_tests, c.is_empty.ensures) in
          ap (λ v. map said_of v.items) w.lines-is ∙ ap (map said_of) w.in_ok-push-2.ensures.items ∙ map-append said_of c.loop-line.lines.items _ ∙ sym (one_unended c.loop-line.invariant c.in_default.ensures.unended some)
      | else-not-is_empty w ↦
          let t = w.if-not-is_empty.false in
          let none : length c.loop-line.rest.now ≡ 0 = grind (arith, nat_tests, c.is_empty.ensures) in
          ap (λ v. map said_of v.items) w.lines-is ∙ sym (none_unended c.loop-line.rest.now c.loop-line.invariant none)
    ]
