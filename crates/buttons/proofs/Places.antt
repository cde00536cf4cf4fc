-- The pass over a row says whether it holds a chord, as specs/Chords.antt says it by places; and what begins
-- a row without a chord is without one. Assumes nothing.
use mathlib.Core.Path.{◌≡◌, refl, sym, ◌∙◌, ap}
use mathlib.Core.Logic.{⊎_elim}
use mathlib.Core.Bool.{Bool, true, false, not, ◌&&◌, ◌||◌, true≢false, and-true, and-false, or-true, or-false}
use mathlib.Core.List.{List, [], ◌∷◌, ◌++◌, foldl, foldl-append}
use Prim.Native.Nat.{ℕ, zero, suc, ◌≤◌, ◌<◌}
use native.Mathlib.Omega.{arith}
use lib.Dec.{ltb}
use lib.ListN.{length, take, drop, take-append-drop}
use lib.Seq.{take-suc, take-length}
use borrow.Author.Tests.{lt-ltb, le-ltb}
use Rattle.game.specs.declared.Event.{Event}
use Rattle.game.specs.declared.Event.TheVariants.{Mouse, State}
use Rattle.game.specs.declared.MouseKind.{MouseKind}
use Rattle.game.specs.declared.MouseKind.TheVariants.{Mv, Lc, Lr, Rc, Rr, Mc, Mr, Pf, Cc, L, R, M, Ub}
use Rattle.rows.specs.Rows.{no_event}
use Rattle.flood.specs.Spread.{some}
use Rattle.flood.proofs.Sets.{or_left, true_or_false}
use Rattle.buttons.specs.declared.Buttons.{Buttons}
use Rattle.buttons.specs.Chords.{is_kind, kind_at, is_down, chord_at, has_chord}
use Rattle.buttons.specs.Pressing.{stand, none_down, pressed}

-- TESTS: at no place, and alike at each

pub some-none : (p : ℕ → Bool) (n : ℕ) → ((i : ℕ) → i < n → p i ≡ false) → some p n ≡ false
some-none p zero h = refl
some-none p (suc n) h = rw (some-none p n (λ i l. h i (omega arith)), h n (omega arith))

pub some_same : (p q : ℕ → Bool) (n : ℕ) → ((i : ℕ) → i < n → p i ≡ q i) → some p n ≡ some q n
some_same p q zero h = refl
some_same p q (suc n) h = rw (some_same p q n (λ i l. h i (omega arith)), h n (omega arith))

-- PLACE BY PLACE

-- at place j a button is down that is pressed where p says and released where r says
abbrev down : (p r : ℕ → Bool) → ℕ → Bool
down p r j = some (λ i. p i && not (some (λ k. ltb i k && r k) j)) j

-- of the presses before place j, those that last past it: all, or none where it is a release
earlier : (p r : ℕ → Bool) (j : ℕ) (b : Bool)
    → some (λ i. p i && not (some (λ k. ltb i k && r k) j || (ltb i j && b))) j ≡ (down p r j && not b)
earlier p r j true =
    some-none _ j (λ i h. rw (lt-ltb i j h, or-true, and-false)) ∙ sym (and-false (down p r j))
earlier p r j false = some_same _ _ j (λ i h. rw (lt-ltb i j h, or-false)) ∙ sym (and-true (down p r j))

down_next : (p r : ℕ → Bool) (j : ℕ) → down p r (suc j) ≡ ((down p r j && not (r j)) || p j)
down_next p r j =
    let none : some (λ k. ltb j k && r k) (suc j) ≡ false =
    some-none _ (suc j) (λ k h. rw (le-ltb j k (omega arith))) in
    rw (earlier p r j (r j), none, and-true)

-- what an event does, by its kind
step_is : (e : Event) (l r c : Bool) → pressed (stand l r c) e
    ≡ stand ((l && not (is_kind Lr e)) || is_kind Lc e) ((r && not (is_kind Rr e)) || is_kind Rc e)
    (c || (is_kind Cc e || (is_kind Lc e && r) || (is_kind Rc e && l)))
step_is (State t s) l r c = simp (and-true, or-false)
step_is (Mouse t Lc x y) l r c = simp (and-true, or-false, or-true)
step_is (Mouse t Lr x y) l r c = simp (and-true, and-false, or-false)
step_is (Mouse t Rc x y) l r c = simp (and-true, or-false, or-true)
step_is (Mouse t Rr x y) l r c = simp (and-true, and-false, or-false)
step_is (Mouse t Cc x y) l r c = simp (and-true, or-false, or-true)
step_is (Mouse t Mv x y) l r c = simp (and-true, or-false)
step_is (Mouse t Mc x y) l r c = simp (and-true, or-false)
step_is (Mouse t Mr x y) l r c = simp (and-true, or-false)
step_is (Mouse t Pf x y) l r c = simp (and-true, or-false)
step_is (Mouse t L x y) l r c = simp (and-true, or-false)
step_is (Mouse t R x y) l r c = simp (and-true, or-false)
step_is (Mouse t M x y) l r c = simp (and-true, or-false)
step_is (Mouse t Ub x y) l r c = simp (and-true, or-false)

module _ (row : List Event) where
  isDown-next : (press release : MouseKind) (j : ℕ) → is_down row press release (suc j)
      ≡ ((is_down row press release j && not (kind_at row release j)) || kind_at row press j)
  unfolding is_down
  isDown-next press release j = down_next (kind_at row press) (kind_at row release) j

  -- the buttons at place j, and whether a chord stands before it
  abbrev buttonsAt : ℕ → Buttons
  buttonsAt j = stand (is_down row Lc Lr j) (is_down row Rc Rr j) (some (chord_at row) j)

  none-at-first : none_down ≡ buttonsAt zero
  unfolding is_down
  none-at-first = refl

  one_more : (j : ℕ) → j < length row → foldl pressed none_down (take j row) ≡ buttonsAt j
      → foldl pressed none_down (take (suc j) row) ≡ buttonsAt (suc j)
  unfolding chord_at
  one_more j h e =
      rw (take-suc row j no_event, foldl-append, e, step_is, isDown-next Lc Lr j, isDown-next Rc Rr j)

  -- the pass over the first j entries
  passed : (j : ℕ) → j ≤ length row → foldl pressed none_down (take j row) ≡ buttonsAt j
  passed zero h = none-at-first
  passed (suc j) h = one_more j h (passed j (omega arith))

  -- the pass over all
  pub pressed-is : (foldl pressed none_down row).chord ≡ has_chord row
  unfolding has_chord
  pressed-is =
      let e = passed (length row) (omega arith) in
      ap (λ (b : Buttons). b.chord) (rw take-length at e)

-- A ROW THAT GOES ON

-- a chord once met stays
stays : (more : List Event) (b : Buttons) → b.chord ≡ true → (foldl pressed b more).chord ≡ true
stays [] b h = h
stays (e ∷ more) b h =
    stays more (pressed b e)
    (ap (λ (a : Buttons). a.chord) (step_is e b.left b.right b.chord) ∙ or_left b.chord _ h)

-- what begins a row without a chord is without one
pub chord_before : (row more : List Event) → has_chord (row ++ more) ≡ false → has_chord row ≡ false
chord_before row more h =
    let pass = foldl pressed none_down in
    let whole : (foldl pressed (pass row) more).chord ≡ false =
    rw (← foldl-append pressed none_down row more) (pressed-is (row ++ more) ∙ h) in
    ⊎_elim
    (λ met. absurd (true≢false (sym (stays more (pass row) (pressed-is row ∙ met)) ∙ whole)))
    (λ none. none)
    (true_or_false (has_chord row))

pub chord_before-take : (n : ℕ) (row : List Event) → has_chord row ≡ false → has_chord (take n row) ≡ false
chord_before-take n row h = chord_before (take n row) (drop n row) (rw take-append-drop h)
