-- The line of a part: JSON of one object.
use Rattle.std.specs.Prelude.{◌≡◌, ◌<◌, ◌≤◌, ◌^◌, ℕ, FitsSigned, List, All, length, Option, Some, None, IfSome, codes, IsUtf8}
use Rattle.std.specs.Int.{w64}
use Rattle.replay.specs.declared.{piece.TheConstants.NUMBERS, schedule.TheConstants.PLACES}
use Rattle.walk_summary.specs.Summaries.{IsSummary}
use Rattle.runner_report.specs.ReportText.{cause_data, bound_data, count_data, ends_data, schedule_data, first_bad_data}
use Rattle.runner_report.specs.declared.{level.Level.Level, report.Cause.Cause}
use Rattle.serde_json.specs.Data.{Data, boolean, string, object, Members, no_members, member}
use Rattle.serde_json.specs.{Read.read, Written.compact_text}
use Rattle.hex.specs.Hex.{encode_lower, IsBytes}
use Rattle.sha2.specs.Sha256.{sha256}
use Rattle.runner_parts.specs.declared.{guest.GuestDigest.GuestDigest, part.Part.Part}
use Rattle.runner_parts.specs.declared.part.TheConstants.{VERSION}

-- the guest of a text
abbrev pub guest_of : List ℕ → GuestDigest
guest_of text = record { bytes = length text; sha256 = sha256 text }

-- what contracts see of a part, memory aside
pub record PartView : Type 0 where
  pub under : List ℕ
  pub level : Level
  pub guest : GuestDigest

abbrev pub part_view : Part → PartView
part_view x = record { under = x.under.items; level = x.level; guest = x.guest }

-- the part is of the guest with this text
abbrev pub IsOfText : List ℕ → Part → Type 0
IsOfText text x = x.guest ≡ guest_of text

-- ---- the text

-- the length of a guest's text, and its digest in hex
abbrev pub guest_data : GuestDigest → Data
guest_data g = object
    (member (codes "bytes") (count_data g.bytes)
    (member (codes "sha256") (string (encode_lower g.sha256)) no_members))

-- these members, after the cause where there is one
abbrev pub with_cause : Option Cause → Members → Members
with_cause (Some cause) ms = member (codes "cause") (cause_data cause) ms
with_cause None ms = ms

-- one object, its keys in the order of their bytes
abbrev pub part_data : PartView → Data
part_data x = object
    (member (codes "beyond") (boolean x.level.summary.beyond)
    (member (codes "bound") (bound_data x.level.bound)
    (with_cause x.level.cause
    (member (codes "ends") (ends_data x.level.summary.ends)
    (member (codes "failed") (count_data x.level.summary.failed)
    (member (codes "guest") (guest_data x.guest)
    (member (codes "schedule") (first_bad_data x.level.summary.first_bad)
    (member (codes "stuck") (count_data x.level.summary.stuck)
    (member (codes "tried") (count_data x.level.summary.tried)
    (member (codes "under") (schedule_data x.under)
    (member (codes "version") (count_data VERSION) no_members)))))))))))

-- with no space
abbrev pub part_text : PartView → List ℕ
part_text x = compact_text (part_data x)

-- the line is JSON of the part
pub record IsLineOf (line : List ℕ) (x : PartView) : Type 0 where
  pub utf8 : IsUtf8 line
  pub reads : read line ≡ Some (part_data x)

-- ---- the values that there are

-- a schedule that has a text, and isn't too long to be read
pub record IsSchedule (w : List ℕ) : Type 0 where
  pub small : All (λ t. t < NUMBERS) w
  pub short : length w ≤ PLACES

-- a guest with a digest of 32 bytes
pub record IsGuest (g : GuestDigest) : Type 0 where
  pub bytes : g.bytes < 2 ^ 64
  pub long : length g.sha256 ≡ 32
  pub digest : IsBytes g.sha256

pub record IsLevel (l : Level) : Type 0 where
  pub bound : IfSome l.bound (λ b. b < 2 ^ 32)
  pub summary : IsSummary l.summary
  pub first_bad : IfSome l.summary.first_bad IsSchedule
  pub values : All (λ v. All (FitsSigned w64) v.vars) l.summary.ends

-- the numbers of a part are within their ranges, its summary is one, and its schedules can be read
pub record IsPart (x : PartView) : Type 0 where
  pub under : IsSchedule x.under
  pub level : IsLevel x.level
  pub guest : IsGuest x.guest
