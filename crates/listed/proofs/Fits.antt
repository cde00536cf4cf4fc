-- THE OUTPUT IS SHORT: what `evflist` prints for any input has at most 65536 bytes. Assumes nothing but that
-- the input is bytes.
--     few_digits     a number below 10 ^ k has at most k digits
--     event_fits     the line of an event has at most 26 bytes
--     game_fits      the line of a game at most 131
--     listed-fits    the whole output at most 65536
use Prim.Native.Nat.{ℕ, zero, suc, ◌+◌, ◌*◌, ◌/◌, ◌^◌, ◌≤◌, ◌<◌}
use mathlib.Core.Path.{◌≡◌, refl, subst}
use mathlib.Core.Bool.{true, false}
use mathlib.Core.List.{List}
use native.Mathlib.Nat.{pow-succ'}
use native.Mathlib.Omega.{arith}
use lib.Dec.{leb, ltb}
use lib.ListN.{length, length-append}
use borrow.Author.Tests.{ltb-true, ltb-false}
use Rattle.text.specs.Decimals.{digits_of, decimal_bytes}
use Rattle.text.proofs.Written.{one-digit, more-digits}
use Rattle.text.proofs.Decimals.{twenty_at-most}
use Rattle.times.specs.Times.{halves_away, s_to_ms}
use Rattle.times.proofs.Seconds.{ms_small}
use Rattle.game.specs.declared.MouseKind.{MouseKind}
use Rattle.game.specs.declared.MouseKind.TheVariants.{Mv, Lc, Lr, Rc, Rr, Mc, Mr, Pf, Cc, L, R, M, Ub}
use Rattle.game.specs.declared.GameState.{GameState}
use Rattle.game.specs.declared.GameState.TheVariants.{Replay, Win, Fail, Error}
use Rattle.game.specs.declared.Event.{Event}
use Rattle.game.specs.declared.Event.TheVariants.{Mouse, State}
use Rattle.game.specs.declared.Header.{Header}
use Rattle.names.specs.Names.{kind_name, state_name}
use Rattle.lines.specs.Fields.{column}
use Rattle.byte_reader.specs.Reading.{Bytes}
use Rattle.evf_events.specs.declared.EventCursor.{EventCursor}
use Rattle.evf_events.proofs.Turns.{by_test}
use Rattle.evf_video.specs.Reading.{Reading, game, none, reading_of}
use Rattle.evf_video.specs.Parsed.{parse_of}
use Rattle.evf_video.proofs.Buffers.{fitted}
use Rattle.evf_video.proofs.Singly.{Singly, over, next, singly}
use Rattle.event_lines.specs.Lines.{letters, mouse_line, state_line, event_line}
use Rattle.listed.specs.Listed.{most_bytes, most_cells, most_events}
use Rattle.listed.specs.Listed.{event_lines, game_line, refusal_line, lines_of, long_line, listed_of}
use Rattle.evf_events.proofs.Pixels.{SmallEvent, SmallStep, small-step}

-- NUMBERS
few_digits : (j k n : ℕ) → n < 10 ^ suc k → length (digits_of j n) ≤ suc k
few_digits zero k n h = omega arith
few_digits (suc j) zero n h = let l : n < 10 = omega arith in rw (one-digit j n l) (omega arith)
few_digits (suc j) (suc k) n h =
    (elim (ltb n 10) as (λ t. ltb n 10 ≡ t → length (digits_of (suc j) n) ≤ suc (suc k)) [
      | true ↦ λ e. let l = ltb-true n 10 e in rw (one-digit j n l) (omega arith)
      | false ↦ λ e. let l = ltb-false n 10 e in
          let g : n < 10 * 10 ^ suc k = rw (pow-succ' 10 (suc k)) at h in
          rw (more-digits j n l, length-append) (omega (arith, few_digits j k (n / 10) (omega arith)))
    ])
    refl

module _ (n : ℕ) where
  short-column : (k : ℕ) → n < 10 ^ suc k → length (column n) ≤ k + 2
  unfolding decimal_bytes
  short-column k h = omega (arith, few_digits 20 k n h)

  any-column : length (column n) ≤ 21
  any-column = omega (arith, twenty_at-most n)

-- NAMES
kind_fits : (kind : MouseKind) → length (letters (kind_name kind)) ≤ 2
kind_fits Mv = omega arith
kind_fits Lc = omega arith
kind_fits Lr = omega arith
kind_fits Rc = omega arith
kind_fits Rr = omega arith
kind_fits Mc = omega arith
kind_fits Mr = omega arith
kind_fits Pf = omega arith
kind_fits Cc = omega arith
kind_fits L = omega arith
kind_fits R = omega arith
kind_fits M = omega arith
kind_fits Ub = omega arith

state_fits : (state : GameState) → length (letters (state_name state)) ≤ 6
state_fits Replay = omega arith
state_fits Win = omega arith
state_fits Fail = omega arith
state_fits Error = omega arith

-- LINES
ms_column : (ms : ℕ) → ms < 2 ^ 32 → length (column ms) ≤ 11
ms_column ms h = let l : ms < 10 ^ suc 9 = omega arith in omega (arith, short-column ms 9 l)

pixel_column : (x : ℕ) → x < 65536 → length (column x) ≤ 6
pixel_column x h = let l : x < 10 ^ suc 4 = omega arith in omega (arith, short-column x 4 l)

mouse_fits : (kind : MouseKind) (ms x y : ℕ) → ms < 2 ^ 32 → x < 65536 → y < 65536
    → length (mouse_line kind ms x y) ≤ 26
unfolding mouse_line
mouse_fits kind ms x y a b c =
    simp length-append
    (omega (arith, kind_fits kind, ms_column ms a, pixel_column x b, pixel_column y c))

state_line_fits : (state : GameState) (ms : ℕ) → ms < 2 ^ 32 → length (state_line state ms) ≤ 26
unfolding state_line
state_line_fits state ms a = simp length-append (omega (arith, state_fits state, ms_column ms a))

event_fits : (e : Event) → SmallEvent e → length (event_line e) ≤ 26
event_fits (Mouse s kind x y) h = mouse_fits kind (s_to_ms halves_away s) x y (ms_small halves_away s) h.0
    h.1
event_fits (State s state) h = state_line_fits state (s_to_ms halves_away s) (ms_small halves_away s)

game_fits : (h : Header) (n : ℕ) → length (game_line h n) ≤ 131
unfolding game_line
game_fits h n =
    simp length-append
    (omega (
      arith,
      any-column h.version,
      any-column h.height,
      any-column h.width,
      any-column h.mine_num,
      any-column h.rtime_ms.0,
      any-column n,
    ))

refusal_fits : (n : ℕ) → length (refusal_line n) ≤ 29
unfolding refusal_line
refusal_fits n = simp length-append (omega (arith, any-column n))

-- ALL OF THEM
module _ (file : List ℕ) (small : Bytes file) where
  events-fit : {c : EventCursor} {es : List Event} → Singly file c es
      → length (event_lines es) ≤ 26 * length es
  events-fit (over q) = omega arith
  events-fit {c} (next {e = e} {es = es} q s) =
      simp length-append
      (omega (arith, event_fits e (subst SmallStep q (small-step file small c)), events-fit s))

  reading-fits : (R : Reading) → parse_of file most_cells most_events ≡ R → length (lines_of R) ≤ most_bytes
  unfolding parse_of
  reading-fits (game h board es) q =
      let f = fitted most_cells most_events h board es (reading_of file) q in
      let e = events-fit (singly file h board es f.is) in
      simp length-append (omega (arith, f.row_fits, game_fits h (length es), e))
  reading-fits (none n) q = omega (arith, refusal_fits n)

  pub listed-fits : length (listed_of file) ≤ 65536
  unfolding listed_of long_line
  listed-fits =
      by_test (λ (l : List ℕ). length l ≤ 65536) (leb (length file) most_bytes)
      (λ e. reading-fits (parse_of file most_cells most_events) refl) (λ e. omega arith)
