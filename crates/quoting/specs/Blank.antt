-- The tables of a quote as they are made.
use Rattle.std.specs.Prelude.{◌≡◌, replicate, pos}
use Rattle.quoting.specs.declared.tables.Tables.{Tables}

-- all at 0: 32 worths, the values of 48 visits and after in 32 conditions, and the remedies of 48 visits; of the 2,048
-- records the type says how many there are
pub record AllBlank (t : Tables) : Type 0 where
  pub worths : t.worths.items ≡ replicate 32 (pos 0)
  pub values : t.values.items ≡ replicate 1568 (pos 0)
  pub remedies : t.remedies.items ≡ replicate 1536 0
