use Rattle.std.proofs.Common.{refl}
use Rattle.walk_prefixes.proofs.WayBytes.{small_way}
use Rattle.walk_prefixes.proofs.bytes.put_short_delta.Goals as goal

pub returns : goal.returns
returns c = small_way c.args.bytes.now.items c.args.tail.now c.put_reserved.new.bytes.items _
    c.args.dropped _ c.requires.dropped c.requires.tail c.put_reserved.ensures.items refl
    c.push_reserved.ensures.items
