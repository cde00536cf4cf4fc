-- A GAME THAT WAS READ AND WRITTEN AGAIN AS VERSION 4 (02, note 3), of any version. Assumes nothing but that
-- files are bytes.
--     kept_again     where it is accepted, the new bytes read as that game with its mouse events alone
--     only-pixels    a game of version 4 is refused with nothing but 16
use Prim.Native.Nat.{ℕ, ◌*◌, ◌≤◌}
use mathlib.Core.Path.{◌≡◌, refl, sym, ap, subst, ◌∙◌}
use mathlib.Core.Logic.{◌⊎◌, inl, inr}
use mathlib.Core.List.{List, [], ◌∷◌}
use native.Mathlib.Omega.{arith}
use lib.IntN.{ℤ}
use lib.ListN.{length, take}
use lib.Seq.{sets}
use Rattle.text.specs.declared.Place.{Place}
use Rattle.times.specs.Times.{seconds_of, s_to_ms}
use Rattle.times.proofs.Seconds.{round_trip}
use Rattle.game.specs.declared.Event.{Event}
use Rattle.game.specs.declared.Event.TheVariants.{Mouse, State}
use Rattle.game.specs.declared.Header.{Header}
use Rattle.game.specs.Same.{Game, SameGame}
use Rattle.game.proofs.Same.{same_refl}
use Rattle.byte_reader.specs.Reading.{Bytes}
use Rattle.evf_video.specs.Reading.{game, reading_of, cells_at, game_read}
use Rattle.evf_judging.specs.declared.Verdict.TheVariants.{Refused}
use Rattle.evf_judging.specs.Refusals.{first_refusal, checks}
use Rattle.layout_fields.specs.Fields.{lent}
use Rattle.generate_evf.specs.declared.Written.TheVariants.{Bytes as Length}
use Rattle.generate_evf.specs.Written.{written_of, file_then}
use Rattle.read_back.specs.Saved.{mouse_events, saved_events, saved_game}
use Rattle.read_back.specs.Back.{ReadsBack}
use Rattle.read_back.proofs.Whole.{as_same, saved-is-same}
use Rattle.read_back.proofs.Lent.{on-board, lent-plain}
use Rattle.read_back.proofs.Readings.{read-types, read_plain}
use Rattle.read_back.proofs.OnlySayable.{read_sayable_ms}
use Rattle.read_back.proofs.Checks.{late-unsayable}
use Rattle.read_back.proofs.Accepted.{written_back}
use Rattle.read_back.proofs.Longer.{over_itself, cells-long}
use Rattle.read_back.proofs.Upgraded.{told}

-- game states leave nothing behind
no_states : (rule : ℕ) (es : List Event)
    → saved_events (s_to_ms rule) es ≡ saved_events (s_to_ms rule) (mouse_events es)
no_states rule [] = refl
no_states rule (Mouse seconds kind x y ∷ es) =
    ap (λ (l : List Event). Mouse (seconds_of (s_to_ms rule seconds)) kind x y ∷ l) (no_states rule es)
no_states rule (State seconds state ∷ es) = no_states rule es

module _ (rule : ℕ) (s : List ℕ) (small : Bytes s) {h : Header} {place : Place} {es : List Event}
    (reads : reading_of s ≡ game h place es) where
  -- it is saved as what it is with its mouse events alone
  same-again : SameGame (saved_game (s_to_ms rule) (game_read s h place es)) (game_read s h place (mouse_events es))
  same-again =
      let c = cells_at s h place in
      let mice = mouse_events es in
      let room : h.height * h.width ≤ length c = omega (arith, cells-long s h place) in
      let events-are : saved_game (s_to_ms rule) (lent h s c mice) ≡ saved_game (s_to_ms rule) (lent h s c es) =
      ap (λ (l : List Event). record {
        header = (saved_game (s_to_ms rule) (lent h s c es)).header;
        bytes = s;
        cells = (saved_game (s_to_ms rule) (lent h s c es)).cells;
        events = l;
      }) (sym (no_states rule es)) in
      let saved-is : saved_game (s_to_ms rule) (lent h s (sets c 0 c) mice) ≡ saved_game (s_to_ms rule)
      (lent h s c es) =
      ap (λ (d : List ℤ). saved_game (s_to_ms rule) (lent h s d mice)) (over_itself c) ∙ events-are in
      subst (λ (k : Game). SameGame k (game_read s h place mice)) saved-is
      (subst (SameGame (saved_game (s_to_ms rule) (lent h s (sets c 0 c) mice))) (on-board s h place mice c room)
      (saved-is-same (s_to_ms rule) (round_trip rule) (lent h s (sets c 0 c) mice)
      (lent-plain s h place mice c room (read_plain s small reads))))

  pub kept_again : (copy : List ℕ) {n : ℕ}
      → written_of rule 4 (game_read s h place es) (length copy) ≡ Length n
      → ReadsBack (take n (file_then rule 4 (game_read s h place es) copy))
      (game_read s h place (mouse_events es))
  kept_again copy {n} e =
      let g = game_read s h place es in
      as_same (take n (file_then rule 4 g copy)) (saved_game (s_to_ms rule) g) (game_read s h place
      (mouse_events es))
      (written_back rule g (read-types s small reads (cells_at s h place)) copy e) same-again

  pub only-pixels : h.version ≡ 4 → {k : ℕ}
      → first_refusal (checks (s_to_ms rule) 4 (game_read s h place es)) ≡ Refused k → k ≡ 16
  only-pixels new {k} e = by_number (told s small reads (s_to_ms rule) e)
    where
      by_number : (k ≡ 16) ⊎ ((19 ≤ k) × (k ≤ 22)) → k ≡ 16
      by_number (inl q) = q
      by_number (inr q) =
          let g = game_read s h place es in
          absurd (late-unsayable (s_to_ms rule) g e q.0 (read_sayable_ms rule s small reads new g
          (same_refl g)))
