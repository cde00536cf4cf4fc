-- What the conversion answers, as one number for a host. Definitions only.
use Rattle.std.specs.Prelude.{ℕ, ◌+◌}
use Rattle.times.specs.declared.Converted.{Converted}
use Rattle.times.specs.declared.Converted.TheVariants.{Ms, Refused}

-- milliseconds as they are; a refusal's number behind the largest of them
abbrev pub told_ms : Converted → ℕ
told_ms (Ms ms) = ms.0
told_ms (Refused n) = 4294967296 + n
