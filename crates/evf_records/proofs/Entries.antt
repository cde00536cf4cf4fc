-- One entry: judged and measured, and written. Assumes nothing.
--     judged-mouse, judged-state          what the code works out is the definition's
--     put-off, put-mouse, put-state       and what it writes
use Prim.Native.Nat.{ℕ, ◌+◌, ◌-◌, ◌≤◌}
use mathlib.Core.Path.{◌≡◌, refl, sym, ap, ◌∙◌}
use mathlib.Core.Bool.{true, false, cond}
use mathlib.Core.List.{List}
use native.Mathlib.Nat.{add-zero}
use native.Mathlib.Omega.{arith}
use lib.Dec.{eqb}
use lib.Ieee.{Float}
use lib.ListN.{length}
use Rattle.std.specs.Prelude.{Option, Some, None}
use Rattle.std.specs.Option.{option_or}
use Rattle.times.specs.declared.GameMs.{GameMs}
use Rattle.times.specs.Times.{s_to_ms}
use Rattle.game.specs.declared.MouseKind.{MouseKind}
use Rattle.game.specs.declared.GameState.{GameState}
use Rattle.game.specs.declared.Event.{Event}
use Rattle.game.specs.declared.Event.TheVariants.{Mouse, State}
use Rattle.byte_writer.specs.declared.Length.{Length}
use Rattle.byte_writer.specs.Places.{most, capped, Writes, plus_of}
use Rattle.byte_writer.proofs.Laws.{plus_fits}
use Rattle.evf_records.specs.declared.Seen.{Seen}
use Rattle.evf_records.specs.declared.Run.{Run}
use Rattle.mouse_records.specs.Pauses.{pauses_of}
use Rattle.evf_records.specs.declared.FirstFault.{FirstFault}
use Rattle.evf_records.specs.declared.FirstFault.TheVariants.{NotMouse}
use Rattle.evf_records.specs.declared.EntryFault.{EntryFault}
use Rattle.evf_records.specs.Causes.{first_mouse_fault, mouse_fault}
use Rattle.mouse_records.specs.MouseRecords.{mouse_bytes}
use Rattle.evf_records.specs.Steps.{seen_after, ran_after, wrote_after}
use Rattle.evf_records.proofs.Causes.{next_none}
use Rattle.mouse_records.proofs.Records.{mouse_long}

-- JUDGED
module _ (s : Seen) (seconds : Float) where
  pub judged-mouse : (kind : MouseKind)
      (x y : ℕ) {ms : GameMs} {start begins-so : Option FirstFault} {fault holds-so : Option EntryFault} {k n : ℕ}
      {len : Length}
      → s_to_ms s.rule seconds ≡ ms.0
      → start ≡ cond (eqb s.version 4) (first_mouse_fault kind ms) None
      → fault ≡ mouse_fault s.version s.entries s.last.ms kind ms
      → k ≡ capped (s.entries + 1)
      → begins-so ≡ cond (eqb s.entries 0) start s.first_fault
      → holds-so ≡ option_or s.entry_fault fault
      → n ≡ cond (eqb s.version 4) (length (pauses_of (ms.0 - s.last.ms.0)) + 6) 8
      → len ≡ plus_of s.len n
      → record {
        version = s.version;
        rule = s.rule;
        entries = k;
        first_fault = begins-so;
        entry_fault = holds-so;
        last = record { ms = ms; x = x; y = y };
        len = len;
      }
      ≡ seen_after s (Mouse seconds kind x y)
  unfolding seen_after
  judged-mouse kind x y {ms} em es ee ek eb eh en el =
      rw (
        el,
        eh,
        eb,
        en,
        ee,
        es,
        ek,
        em,
        mouse_long s.version s.last kind (record { ms = ms; x = x; y = y }),
      )

  plus_none : (l : Length) → l.bytes ≤ most → l ≡ plus_of l 0
  plus_none l h = sym (ap (λ (n : ℕ). record { bytes = n; over = l.over }) (add-zero l.bytes))
      ∙ plus_fits l 0 (omega arith)

  pub judged-state : (state : GameState) {start begins-so : Option FirstFault} {k : ℕ}
      → start ≡ cond (eqb s.version 4) (Some NotMouse) None
      → k ≡ capped (s.entries + 1) → begins-so ≡ cond (eqb s.entries 0) start s.first_fault
      → s.len.bytes ≤ most
      → record {
        version = s.version;
        rule = s.rule;
        entries = k;
        first_fault = begins-so;
        entry_fault = s.entry_fault;
        last = s.last;
        len = s.len;
      }
      ≡ seen_after s (State seconds state)
  unfolding seen_after
  judged-state state es ek eb h = rw (eb, es, ek, next_none s.entry_fault, ← plus_none s.len h)

-- WRITTEN
module _ (r : Run) (d : List ℕ) where
  pub put-off : (e : Event) → r.off ≡ true → (r ≡ ran_after r e) × (d ≡ wrote_after d r e)
  unfolding ran_after wrote_after
  put-off e off = (rw off, rw off)

  pub put-mouse : (seconds : Float) (kind : MouseKind) (x y : ℕ) {ms : GameMs} {d' : List ℕ} {to : ℕ}
      → r.off ≡ false → s_to_ms r.rule seconds ≡ ms.0
      → Writes d d' r.at (mouse_bytes r.version r.last kind (record { ms = ms; x = x; y = y })) to
      → (record {
        version = r.version;
        rule = r.rule;
        off = r.off;
        at = to;
        last = record { ms = ms; x = x; y = y };
      }
      ≡ ran_after r (Mouse seconds kind x y)) × (d' ≡ wrote_after d r (Mouse seconds kind x y))
  unfolding ran_after wrote_after
  put-mouse seconds kind x y off e w = (rw (off, w.next, e), rw (off, w.is, e))

  state-on : (seconds : Float) (state : GameState) → r.off ≡ false → r.at ≤ most
      → (r ≡ ran_after r (State seconds state)) × (d ≡ wrote_after d r (State seconds state))
  unfolding ran_after wrote_after
  state-on seconds state off h =
      let same : r.at ≡ capped (r.at + 0) = omega arith in (
        rw off
            (ap (λ (n : ℕ). record {
              version = r.version;
              rule = r.rule;
              off = false;
              at = n;
              last = r.last;
            }) same),
        rw off,
      )

  pub put-state : (seconds : Float) (state : GameState) → r.at ≤ most
      → (r ≡ ran_after r (State seconds state)) × (d ≡ wrote_after d r (State seconds state))
  put-state seconds state h =
      (elim r.off as
      (λ b. r.off ≡ b
      → (r ≡ ran_after r (State seconds state)) × (d ≡ wrote_after d r (State seconds state))) [
        | true ↦ λ q. put-off (State seconds state) q
        | false ↦ λ q. state-on seconds state q h
      ])
      refl
