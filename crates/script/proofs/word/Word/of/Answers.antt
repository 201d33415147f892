use Rattle.std.proofs.Common.{◌≡◌, Option, None, Some, Result, MatchResult, sym, ap, ◌∙◌, subst, rules, tests}
use Rattle.std.specs.Option.{ok_or}
use Rattle.std.specs.Str.{bytes_eq}
use Rattle.std.proofs.lemmas.Iterator.{YieldsList-from_slice}
use Rattle.std.proofs.lemmas.Iterator.Adapters.{option_map_id}
use Rattle.std.proofs.lemmas.Iterator.Consumers.{YieldsList-at, YieldsList-from_copied}
use Rattle.std.proofs.lemmas.Iterator.Search.{find_from_yields_List}
use Rattle.fields.specs.declared.faults.FieldFault.{FieldFault}
use Rattle.fields.specs.Views.{bytes_of}
use Rattle.script.specs.declared.word.Word.{Word}
use Rattle.script.specs.declared.word.TheConstants.{WORDS}
use Rattle.script.specs.Words.{text_of, word_in}
use Rattle.script.proofs.Wording.{no_other}
use Rattle.script.proofs.word.Word.of.Goals as goal
use Rattle.script.proofs.word.Word.of.Goals.{in-Other, in_default}

answered : (word found : Option Word) (e fault : FieldFault) (r : Result Word FieldFault) → r ≡ ok_or found e → word ≡ found → e ≡ fault → MatchResult r (λ w. word ≡ Some w) (λ x. (word ≡ None) × (x ≡ fault))
answered word None e fault r v h g = subst (λ r. MatchResult r (λ w. word ≡ Some w) (λ x. (word ≡ None) × (x ≡ fault))) (sym v) (h, g)
answered word (Some w) e fault r v h g = subst (λ r. MatchResult r (λ w. word ≡ Some w) (λ x. (word ≡ None) × (x ≡ fault))) (sym v) h

pub returns : goal.returns
unfolding word_in
returns c =
    let found : word_in (bytes_of c.args.field.field) ≡ c.match-field.found = elim c.match-field.branch [
      | in-Other w ↦ ap word_in (ap bytes_of w.in-Other.is) ∙ (sym (sym (option_map_id w.find-found.result) ∙ find_from_yields_List (λ x. bytes_eq (text_of x) w.in-Other.text.now) _ _ w.find-found.result w.find-found.ensures.ran (YieldsList-from_copied (YieldsList-at w.copied.ensures.source (YieldsList-from_slice WORDS cc))) (λ x b q k. search (rules, tests))) ∙ sym w.found-is)
      | in_default w ↦ no_other c.args.field.field c.args.field.told (λ p e. w.in_default.not-Other p e) ∙ sym w.found-is
    ] in
    answered _ c.match-field.found _ _ _ c.ok_or.ensures.value found c.wrong_letter.ensures
