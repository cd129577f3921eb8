use Rattle.std.proofs.Common.{◌≡◌, rules, ap, codes}
use Rattle.runner_report.specs.ReportText.{count_data}
use Rattle.serde_json.specs.{Data.string, Find.get}
use Rattle.hex.specs.Hex.{encode_lower}
use Rattle.runner_parts.proofs.Digests.{digest_read}
use Rattle.runner_parts.proofs.reading.guest_of.Goals as goal

pub returns-in_err-field : goal.returns-in_err-field
returns-in_err-field c = λ g is e.
    let found = c.field.ensures (count_data g.bytes) (ap (get (codes "bytes")) e) in search rules

pub returns-in_err-bytes : goal.returns-in_err-bytes
returns-in_err-bytes c = λ g is e.
    let found = c.field.ensures (count_data g.bytes) (ap (get (codes "bytes")) e) in search rules

pub returns-in_err-field-2 : goal.returns-in_err-field-2
returns-in_err-field-2 c = λ g is e.
    let found = c.field-2.ensures (string (encode_lower g.sha256)) (ap (get (codes "sha256")) e) in
    search rules

pub returns-in-Ok : goal.returns-in-Ok
returns-in-Ok c = λ g is e.
    let bytes = c.field.ensures (count_data g.bytes) (ap (get (codes "bytes")) e) in
    let same : c.in_ok-bytes.bytes ≡ g.bytes = search rules in
    let found = c.field-2.ensures (string (encode_lower g.sha256)) (ap (get (codes "sha256")) e) in
    let text : c.unwrap_or-digits.result.now ≡ encode_lower g.sha256 = search rules in
    let digest = digest_read g.sha256 32 is.long is.digest in
    let read : c.in-Ok.sha256 ≡ g.sha256 = search rules in
    λ i. record { bytes = same i; sha256 = read i }

pub returns-in-Err : goal.returns-in-Err
returns-in-Err c = λ g is e.
    let found = c.field-2.ensures (string (encode_lower g.sha256)) (ap (get (codes "sha256")) e) in
    let text : c.unwrap_or-digits.result.now ≡ encode_lower g.sha256 = search rules in
    let digest = digest_read g.sha256 32 is.long is.digest in search rules
