-- A lent table that is filled from its beginning.
use Rattle.std.proofs.Common.{◌≡◌, ℕ, suc, ◌+◌, ◌-◌, ◌<◌, List, [], ◌∷◌, ◌++◌, length, set, take, drop, ap, ◌∙◌, sym, arith, length-append}
use Rattle.std.proofs.lemmas.List.{length-set, drop-set-lt, drop-drop}
use Rattle.std.proofs.Math.Seq.{take-suc-set}
use Rattle.model.specs.Tables.{KeptPast}
use Rattle.bookfile.specs.Filling.{PutLast}

-- a write at the place that is due
pub put_last : {A : Type 0} (n i : ℕ) (x : A) (before : List A) → i + 1 ≡ n → i < length before → PutLast n x before (set before i x)
put_last n i x before e h =
    let here : n ≡ suc i = omega arith in
    let those : i ≡ n - 1 = omega arith in
    record {
      first = ap (λ k. take k (set before i x)) here ∙ take-suc-set before i x h ∙ ap (λ k. take k before ++ (x ∷ [])) those;
      kept = record { long = length-set before i x; past = drop-set-lt n before i x (omega arith) };
    }

-- the table begins with these entries, and is kept past them
pub record FilledBy {A : Type 0} (xs before after : List A) : Type 0 where
  pub first : take (length xs) after ≡ xs
  pub kept : KeptPast (length xs) before after

-- and they are one more after it
pub filled_more : {A : Type 0} (xs before after after' : List A) (n : ℕ) (x : A) → n ≡ length (xs ++ (x ∷ [])) → FilledBy xs before after → PutLast n x after after' → FilledBy (xs ++ (x ∷ [])) before after'
filled_more xs before after after' n x e f p =
    let longer : length (xs ++ (x ∷ [])) ≡ length xs + 1 = simp length-append (omega arith) in
    let those : n - 1 ≡ length xs = omega arith in
    record {
      first = ap (λ k. take k after') (sym e) ∙ p.first ∙ ap (λ k. take k after ++ (x ∷ [])) those ∙ ap (λ l. l ++ (x ∷ [])) f.first;
      kept = record {
        long = p.kept.long ∙ f.kept.long;
        past = ap (λ k. drop k after') (sym e) ∙ p.kept.past ∙ ap (λ k. drop k after) (e ∙ longer)
            ∙ sym (drop-drop 1 (length xs) after) ∙ ap (drop 1) f.kept.past ∙ drop-drop 1 (length xs) before ∙ ap (λ k. drop k before) (sym longer);
      };
    }
