-- What a call on a lock does, as the code meets it: the state and the call are known by equations.
use Rattle.std.proofs.Common.{◌≡◌, ℕ, List, ℤ, Ok, Err, sym, ◌∙◌}
use Rattle.model.specs.Model.{Model, offers}
use Rattle.rounds.specs.States.{Arrival, Treatment}
use Rattle.rounds.specs.Calls.{given_back, to_treat, to_report, to_settle}
use Rattle.rounds.specs.declared.state.Declined.{Declined}
use Rattle.following.specs.declared.call.RoundCall.{RoundCall}
use Rattle.following.specs.declared.call.RoundCall.TheVariants.{Treat, Report, Settle}
use Rattle.following.specs.declared.call.Reply.TheVariants.{Treated, Reported, Settled}
use Rattle.following.specs.declared.call.Reply.TheVariants.{Declined as Refused}
use Rattle.following.specs.declared.lock.Lock.{Lock}
use Rattle.following.specs.declared.lock.Lock.TheVariants.{Waiting, InCare, Done}
use Rattle.following.specs.Runs.{Does}
use Rattle.following.specs.Runs.Does.{treats, treats_not, reports, reports_not, settles, settles_not}

module _ (m : Model) (rs : List ℕ) (l : Lock) (d : RoundCall) where
  pub treated : (r : ℕ) (b : Treatment) (a : Arrival) → l ≡ Waiting a → d ≡ Treat → Ok b ≡ to_treat (offers m) rs a → r ≡ b.remedy → Does m rs l d (Treated r) (InCare b)
  treated r b a is call e same = rw (is, call, same) (treats a b (sym e))

  pub not_treated : (x : Declined Arrival) (a : Arrival) → l ≡ Waiting a → d ≡ Treat → Err x ≡ to_treat (offers m) rs a → x.state ≡ a → Does m rs l d (Refused x.refusal) (Waiting x.state)
  not_treated x a is call e back = rw (is, call, back) (treats_not a x.refusal (sym e ∙ (λ i. given_back (back i) x.refusal)))

  pub reported : (a : Arrival) (b : Treatment) (j : ℕ) → l ≡ InCare b → d ≡ Report j → Ok a ≡ to_report m b j → Does m rs l d Reported (Waiting a)
  reported a b j is call e = rw (is, call) (reports b j a (sym e))

  pub not_reported : (x : Declined Treatment) (b : Treatment) (j : ℕ) → l ≡ InCare b → d ≡ Report j → Err x ≡ to_report m b j → x.state ≡ b → Does m rs l d (Refused x.refusal) (InCare x.state)
  not_reported x b j is call e back = rw (is, call, back) (reports_not b j x.refusal (sym e ∙ (λ i. given_back (back i) x.refusal)))

  pub settled : (z : ℤ) (a : Arrival) → l ≡ Waiting a → d ≡ Settle → Ok z ≡ to_settle m a → Does m rs l d (Settled z) Done
  settled z a is call e = rw (is, call) (settles a z (sym e))

  pub not_settled : (x : Declined Arrival) (a : Arrival) → l ≡ Waiting a → d ≡ Settle → Err x ≡ to_settle m a → x.state ≡ a → Does m rs l d (Refused x.refusal) (Waiting x.state)
  not_settled x a is call e back = rw (is, call, back) (settles_not a x.refusal (sym e ∙ (λ i. given_back (back i) x.refusal)))
