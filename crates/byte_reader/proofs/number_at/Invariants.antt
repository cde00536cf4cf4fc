-- v is the number of the bytes so far, i of them, and below 256 ^ i.
use mathlib.Core.Path.{◌≡◌}
use Prim.Native.Nat.{◌^◌, ◌<◌}
use lib.ListN.{take, drop}
use Rattle.byte_reader.specs.Numbers.{big_endian}
use Rattle.byte_reader.proofs.number_at.Given as goal

abbrev pub invariant-loop-byte : goal.invariant-loop-byte
invariant-loop-byte l = (l.v ≡ big_endian (take l.byte-index (drop l.at l.file))) × (l.v < 256 ^ l.byte-index)
