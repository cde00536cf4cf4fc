-- `generate_evf::prepare` meets its contract. Assumes nothing.
use mathlib.Core.Path.{sym, ap, ◌∙◌}
use Prim.Native.Nat.{ℕ}
use lib.ListN.{length}
use Rattle.byte_writer.specs.declared.Length.{Length}
use Rattle.byte_writer.specs.Places.{fits_in}
use Rattle.evf_records.specs.Steps.{seen_version, seen_rule, run_from, run_off}
use Rattle.generate_evf.specs.declared.Ready.{Ready}
use Rattle.generate_evf.specs.declared.Written.TheVariants.{Bytes, Short}
use Rattle.generate_evf.specs.Steps.{verdict_of, whole_of}
use Rattle.generate_evf.proofs.Around.{fits, short, bad}
use Rattle.generate_evf.proofs.prepare.Goals as goal

pub returns-then-fits : goal.returns-then-fits
unfolding verdict_of
returns-then-fits c =
    let a = c.args in
    let h = a.header in
    let s = a.bytes.now in
    let d = a.board.now in
    let w = a.file.now in
    let e = c.whole_len-len.ensures.is d in
    let v = sym c.first_refusal.ensures ∙ c.in-Fine.is in
    let f = fits h s d a.seen w v
    (ap (λ (l : Length). fits_in l (length w)) (sym e) ∙ sym c.fits.ensures ∙ c.if-fits.true)
    in
    let written : Length → ℕ → Ready =
    λ l at. record {
      written = Bytes l.bytes;
      run = run_from (seen_version a.seen) (seen_rule
          a.seen) at;
    } in (
      c.go.ensures ∙ ap (λ (l : Length). written l c.write_around-at.result) e
          ∙ ap (written (whole_of h s d a.seen)) c.write_around-at.ensures.0 ∙ f.0,
      c.write_around-at.ensures.1 ∙ f.1,
    )

pub returns-else-fits : goal.returns-else-fits
unfolding verdict_of
returns-else-fits c =
    let a = c.args in
    let h = a.header in
    let s = a.bytes.now in
    let d = a.board.now in
    let w = a.file.now in
    let e = c.whole_len-len.ensures.is d in
    let v = sym c.first_refusal.ensures ∙ c.in-Fine.is in
    let f = short h s d a.seen w v
    (ap (λ (l : Length). fits_in l (length w)) (sym e) ∙ sym c.fits.ensures ∙ c.if-fits.false) in
    let written : Length → Ready =
    λ l. record { written = Short l.bytes; run = run_off (seen_version a.seen) (seen_rule a.seen) } in
    (c.stay.ensures ∙ ap written e ∙ f.0, f.1)

pub returns-in-Refused : goal.returns-in-Refused
unfolding verdict_of
returns-in-Refused c =
    let a = c.args in
    let h = a.header in
    let s = a.bytes.now in
    let d = a.board.now in
    let w = a.file.now in
    let f = bad h s d a.seen w _ (sym c.first_refusal.ensures ∙ c.in-Refused.is) in
    (c.stay-in-Refused.ensures ∙ f.0, f.1)
