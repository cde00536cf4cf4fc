-- `utf8_cases::strings_of` meets its contract: no more than 2^24 strings. Assumes nothing.
use Rattle.std.proofs.Common.{ℕ, zero, suc, ◌^◌, ◌<◌, ◌≤◌, arith}
use Rattle.utf8_cases.proofs.strings_of.Goals as goal

fits : (n : ℕ) → n ≤ 3 → 256 ^ n < 4294967296
fits zero h = omega arith
fits (suc zero) h = omega arith
fits (suc (suc zero)) h = omega arith
fits (suc (suc (suc zero))) h = omega arith
fits (suc (suc (suc (suc n)))) h = absurd (omega arith)

pub pow-requires : goal.pow-requires
pow-requires c = fits c.args.n (omega arith)
