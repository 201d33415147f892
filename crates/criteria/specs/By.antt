-- A criterion that is chosen for each call.
use Rattle.std.specs.Prelude.{ℤ}
use Rattle.criteria.specs.Criteria.{Ops, Laws}
use Rattle.criteria.specs.Mean.{mean, at_least}
use Rattle.criteria.specs.Floor.{floor}
use Rattle.criteria.specs.Keeping.{mean_lawful, floor_lawful}
use Rattle.criteria.specs.declared.by.By.{By}
use Rattle.criteria.specs.declared.by.By.TheVariants.{Mean, Floor}

-- what is chosen reckons as itself
abbrev pub chosen : By → Ops ℤ ℤ
chosen (Mean x) = mean
chosen (Floor x) = floor

pub chosen_lawful : (by : By) → Laws (chosen by) at_least
chosen_lawful (Mean x) = mean_lawful
chosen_lawful (Floor x) = floor_lawful
