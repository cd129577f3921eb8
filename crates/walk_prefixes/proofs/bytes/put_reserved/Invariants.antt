use Rattle.std.proofs.Common.{◌≡◌, ◌+◌, ◌++◌, take, vec_len, vec_capacity}
use Rattle.walk_prefixes.proofs.bytes.put_reserved.Given as goal

abbrev pub invariant-loop-byte : goal.invariant-loop-byte
invariant-loop-byte l = record {
  items : l.bytes.items ≡ l.initial.bytes.items ++ take l.byte-index l.more;
  long : vec_len l.bytes ≡ vec_len l.initial.bytes + l.byte-index;
  room : vec_capacity l.bytes ≡ vec_capacity l.initial.bytes;
}
