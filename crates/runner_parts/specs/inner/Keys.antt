-- What stands in the JSON of a part at each key.
use Rattle.std.specs.Prelude.{◌≡◌, Some, option_map, codes}
use Rattle.runner_report.specs.ReportText.{cause_data, bound_data, count_data, ends_data, first_bad_data}
use Rattle.runner_report.specs.declared.level.Level.{Level}
use Rattle.serde_json.specs.{Data.{Data, boolean}, Find.get}

pub record HasLevel (l : Level) (d : Data) : Type 0 where
  pub beyond : get (codes "beyond") d ≡ Some (boolean l.summary.beyond)
  pub bound : get (codes "bound") d ≡ Some (bound_data l.bound)
  pub cause : get (codes "cause") d ≡ option_map cause_data l.cause
  pub ends : get (codes "ends") d ≡ Some (ends_data l.summary.ends)
  pub failed : get (codes "failed") d ≡ Some (count_data l.summary.failed)
  pub schedule : get (codes "schedule") d ≡ Some (first_bad_data l.summary.first_bad)
  pub stuck : get (codes "stuck") d ≡ Some (count_data l.summary.stuck)
  pub tried : get (codes "tried") d ≡ Some (count_data l.summary.tried)
