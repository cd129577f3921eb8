use Rattle.std.proofs.Common.{ap}
use Rattle.ctxbound_answers.proofs.Reading.{filled_is_part}
use Rattle.ctxbound_answers.proofs.serving.read_text.Goals as goal

pub returns : goal.returns
returns g c =
    let reader = ap (λ r. g.R.Read.remaining r.now) c.take.ensures.inner in
    filled_is_part _ _ c.take.result.limit c.new-text.result.items c.read_to_end.new.buf.items
    reader
    c.new-text.ensures.items c.take.ensures.limit c.in_ok-read_to_end.ensures.bytes
