-- Two small criteria: sure or doubtful, and one to which all is equal.
use Rattle.std.specs.Prelude.{ℕ, Bool, true, false, cond, T, ◌⊎◌, pos, int_lt}
use Rattle.std.proofs.Common.{inl, inr}
use Rattle.criteria.specs.Criteria.{Ops, Laws}
use Rattle.trials.specs.declared.outlook.Outlook.{Outlook}
use Rattle.trials.specs.declared.outlook.Outlook.TheVariants.{Doubtful, Sure}

-- sure if both are
abbrev pub joined : Outlook → Outlook → Outlook
joined Sure later = later
joined Doubtful later = Doubtful

abbrev pub as_good : Outlook → Outlook → Bool
as_good Sure y = true
as_good Doubtful Sure = false
as_good Doubtful Doubtful = true

abbrev pub outlook : Ops Outlook Outlook
outlook = record {
  closing = λ w. cond (int_lt (pos 0) w) Sure Doubtful;
  blank = Sure;
  enter = λ left parts share amount later account. joined account later;
  close = λ parts account. account;
  good = as_good;
}

abbrev pub no_worse : Outlook → Outlook → Type 0
no_worse a b = T (as_good a b)

compared : (x y : Outlook) → T (as_good x y) ⊎ T (as_good y x)
compared Sure y = inl tt
compared Doubtful Sure = inr tt
compared Doubtful Doubtful = inl tt

through : (x y z : Outlook) → T (as_good x y) → T (as_good y z) → T (as_good x z)
through Sure y z a b = tt
through Doubtful Sure z a b = absurd a
through Doubtful Doubtful z a b = b

alike : (x : Outlook) → T (as_good x x)
alike Sure = tt
alike Doubtful = tt

joined_keeps : (v w a b : Outlook) → T (as_good v w) → T (as_good a b) → T (as_good (joined a v) (joined b w))
joined_keeps v w Sure Sure g h = g
joined_keeps v w Sure Doubtful g h = over v
  where
    over : (x : Outlook) → T (as_good x Doubtful)
    over Sure = tt
    over Doubtful = tt
joined_keeps v w Doubtful Sure g h = absurd h
joined_keeps v w Doubtful Doubtful g h = tt

pub outlook_lawful : Laws outlook no_worse
outlook_lawful = record {
  total = compared;
  trans = through;
  itself = alike;
  enters = λ left parts share amount v w a b holds g h. joined_keeps v w a b g h;
  closes = λ parts a b low high h. h;
}

-- the value tells only whether an outcome was entered, and is never asked for
abbrev pub indifferent : Ops ℕ ℕ
indifferent = record {
  closing = λ w. 0;
  blank = 0;
  enter = λ left parts share amount later account. 1;
  close = λ parts account. account;
  good = λ x y. true;
}

abbrev pub any_account : ℕ → ℕ → Type 0
any_account a b = Unit {0}

pub indifferent_lawful : Laws indifferent any_account
indifferent_lawful = record {
  total = λ x y. inl tt;
  trans = λ x y z a b. tt;
  itself = λ a. tt;
  enters = λ left parts share amount v w a b holds g h. tt;
  closes = λ parts a b low high h. tt;
}
