-- Where a file's events start, from what reading its header gave. Assumes nothing.
use Rattle.std.proofs.Common.{◌≡◌, ℕ, List}
use Rattle.byte_reader.specs.Reading.{ok, no}
use Rattle.evf_header.specs.Opening.{Opened, opening}
use Rattle.evf_events.specs.declared.Start.TheVariants.{At as From, Refused as Not}
use Rattle.evf_events.specs.Start.{first_cursor, open_of}

module _ (file : List ℕ) where
  pub opened : (o : Opened) (at : ℕ) → opening file 0 ≡ ok o at
      → From (first_cursor o.header.version at) ≡ open_of file
  unfolding open_of
  opened o at e = rw e

  pub not_opened : (n : ℕ) → opening file 0 ≡ no n → Not n ≡ open_of file
  unfolding open_of
  not_opened n e = rw e
