-- The events of versions 0 to 3 by the codes of their records. Assumes nothing.
--     code-cut, code-end, code_is    the code, as the code finds it
--     Goes, goes-start, goes-next, goes-more, goes_over, goes_none    a fold along the events
--     kind-same, presses_same, played_same    what a code does is the same in all these versions
--     kind_now    version 4 has the names of version 3
--     idle_kind    the codes that do nothing
use Rattle.std.proofs.Common.{◌≡◌, ℕ, zero, suc, ◌+◌, ◌-◌, ◌<◌, ◌≤◌, Bool, true, false, cond, ◌&&◌, eqb, ltb, leb, ◌≢◌, List, [], ◌∷◌, length, get_or, ℤ, sym, refl, ap, ◌∙◌, arith, ltb-false, ltb-true, eq-eqb, ne_eqb, eqb-true, le-leb, leb-false, leb-true}
use mathlib.Core.Bool.{false≢true, and-eq-true_iff}
use mathlib.Core.List.{foldl}
use borrow.Author.Tests.{lt-leb, eqb-false}
use Rattle.times.specs.Times.{seconds_of}
use Rattle.game.specs.declared.Event.{Event}
use Rattle.game.specs.declared.Event.TheVariants.{Mouse}
use Rattle.game.specs.declared.MouseKind.{MouseKind}
use Rattle.game.specs.declared.MouseKind.TheVariants.{L, R, M, Ub}
use Rattle.game.specs.Kinds.{kind_of}
use Rattle.record_fields.specs.Fields.{field}
use Rattle.record_fields.proofs.Fixed.{by_case}
use Rattle.records_v0_v3.specs.Records.{kind_in, old_record}
use Rattle.records_v0_v3.proofs.Records.{old-end, old-stop, old-stop-255, old-mouse, old-cut}
use Rattle.evf_events.specs.declared.EventCursor.{EventCursor}
use Rattle.evf_events.specs.declared.Step.{Step}
use Rattle.evf_events.specs.declared.Step.TheVariants.{Got as Next}
use Rattle.evf_events.specs.Events.{whole, step_of, step_then_on, first_events}
use Rattle.evf_events.specs.Start.{first_cursor}
use Rattle.evf_events.proofs.Firsts.{first_next, first-end, first_refused, first-zero}
use Rattle.evf_events.proofs.Steps.{step-old}
use Rattle.buttons.specs.declared.Buttons.{Buttons}
use Rattle.buttons.specs.Pressing.{pressed_kind}
use Rattle.moves.specs.declared.Act.TheVariants.{Nothing}
use Rattle.moves.specs.declared.Position.{Position}
use Rattle.moves.specs.Moves.{act_of, position_acted, cells_acted}
use Rattle.badge_rules.specs.Steps.{is_rc}
use Rattle.play_passes.specs.OldCodes.{old_code, is_idle}
use Rattle.play_passes.proofs.Along.{both_is, kept}
use Rattle.play_passes.proofs.Played.{acted_is}

-- THE CODE
module _ (file : List ℕ) (at : ℕ) where
  pub code-cut : length file < at + 8 → 0 ≡ old_code file at
  unfolding old_code
  code-cut h = rw (lt-leb (at + 8) (length file) h)

  pub code-end : at + 8 ≤ length file → get_or file at 0 ≡ 255 → 0 ≡ old_code file at
  unfolding old_code
  code-end h e = rw (le-leb (at + 8) (length file) h, eq-eqb (get_or file at 0) 255 e)

  pub code_is : at + 8 ≤ length file → get_or file at 0 ≢ 255 → get_or file at 0 ≡ old_code file at
  unfolding old_code
  code_is h e = rw (le-leb (at + 8) (length file) h, ne_eqb (get_or file at 0) 255 e)

  -- what it tells
  pub record Here (code : ℕ) : Type 0 where
    pub inside : at + 8 ≤ length file
    pub is : get_or file at 0 ≡ code
    pub not_255 : code ≢ 255

  pub here : {code : ℕ} → code ≡ old_code file at → code ≢ 0 → Here code
  here {code} e some =
      by_case (leb (at + 8) (length file))
      (λ l. by_case (eqb (get_or file at 0) 255)
      (λ t. absurd (some (e ∙ sym (code-end (leb-true _ _ l) (eqb-true _ _ t)))))
      (λ t.
      let same : get_or file at 0 ≡ code = code_is (leb-true _ _ l) (eqb-false _ _ t) ∙ sym e in
      record {
        inside = leb-true _ _ l;
        is = same;
        not_255 = λ z. eqb-false _ _ t (same ∙ z);
      }))
      (λ l. absurd (some (e ∙ sym (code-cut (leb-false _ _ l)))))

-- AN EVENT: only version and place of a cursor matter
module _ (file : List ℕ) where
  same_old : (c d : EventCursor) → c.version < 4 → d.version ≡ c.version → d.at ≡ c.at → (k : ℕ)
      → first_events k file d ≡ first_events k file c
  unfolding first_events
  same_old c d v e f zero = refl
  same_old c d v e f (suc k) =
      let d-old = step-old file d (omega (arith, e, v)) in
      let same : whole d.version (old_record d.version file d.at)
      ≡ whole c.version (old_record c.version file c.at) = rw (e, f) in
      ap (λ (s : Step). step_then_on s (first_events k file)) (d-old ∙ same ∙ sym (step-old file c v))

  -- the event of a record with a code
  abbrev pub eventAt : (version at code : ℕ) → Event
  eventAt version at code =
      Mouse (seconds_of (field 3 file (at + 1))) (kind_in version code) (field 2 file (at + 4))
      (field 2 file (at + 6))

  module _ (version : ℕ) (v : version < 4) (at : ℕ) where
    abbrev from : EventCursor
    from = first_cursor version at

    next : (code : ℕ) → code ≢ 0 → Here file at code → (k : ℕ)
        → first_events (suc k) file from
        ≡ eventAt version at code ∷ first_events k file (first_cursor version (at + 8))
    next code some h k =
        let is = h.is in
        let behind : EventCursor = record {
          version = version;
          at = at + 8;
          first = false;
          ms = record { 0 = field 3 file (at + 1) };
          x = field 2 file (at + 4);
          y = field 2 file (at + 6);
        } in
        let steps : step_of file from ≡ Next (eventAt version at code) behind =
        step-old file from v
        ∙ ap (whole version)
        (old-mouse file at version (omega (arith, h.inside)) (λ z. some (sym is ∙ z))
        (λ z. h.not_255 (sym is ∙ z)) h.inside)
        ∙ rw is in
        first_next file from k steps
        ∙ ap (λ (es : List Event). eventAt version at code ∷ es)
        (same_old (first_cursor version (at + 8)) behind v refl refl k)

    -- none stands there
    over : 0 ≡ old_code file at → (n : ℕ) → first_events n file from ≡ []
    over e n =
        by_case (ltb at (length file))
        (λ h. by_case (eqb (get_or file at 0) 0)
        (λ z. first-end file from n
        (step-old file from v
        ∙ ap (whole version) (old-stop file at version (ltb-true _ _ h) (eqb-true _ _ z))))
        (λ z. by_case (eqb (get_or file at 0) 255)
        (λ t. first-end file from n
        (step-old file from v
        ∙ ap (whole version)
        (old-stop-255 file at version (ltb-true _ _ h) (eqb-false _ _ z) (eqb-true _ _ t))))
        (λ t. by_case (leb (at + 8) (length file))
        (λ l. absurd (eqb-false _ _ z (code_is file at (leb-true _ _ l) (eqb-false _ _ t) ∙ sym e)))
        (λ l. first_refused file from n
        (step-old file from v
        ∙ ap (whole version)
        (old-cut file at version (ltb-true _ _ h) (eqb-false _ _ z) (eqb-false _ _ t) (leb-false _ _ l)))))))
        (λ h. first_refused file from n
        (step-old file from v ∙ ap (whole version) (old-end file at version (ltb-false _ _ h))))

-- A FOLD along them: with n events left from a place on it comes to what it does from the start, whatever the
-- version
module _ {A : Type 0} (f : A → Event → A) (file : List ℕ) where
  pub record Goes (start : A) (from most : ℕ) (a : A) (at n : ℕ) : Type 0 where
    pub on : (version : ℕ) → version < 4
        → foldl f a (first_events n file (first_cursor version at))
        ≡ foldl f start (first_events most file (first_cursor version from))

  module _ {start : A} {from most : ℕ} where
    pub goes-start : Goes start from most start from most
    goes-start = record { on = λ version v. refl }

    pub goes-next : {a b : A} {at : ℕ} (n m code : ℕ) → suc m ≡ n → code ≡ old_code file at → code ≢ 0
        → ((version : ℕ) → b ≡ f a (eventAt file version at code)) → Goes start from most a at n
        → Goes start from most b (at + 8) m
    goes-next {a} {b} {at} n m code p e some same w = record {
      on = λ version v.
          ap (λ (x : A). foldl f x (first_events m file (first_cursor version (at + 8)))) (same version)
          ∙ ap (foldl f a) (sym (next file version v at code some (here file at e some) m))
          ∙ ap (λ (k : ℕ). foldl f a (first_events k file (first_cursor version at))) p
          ∙ w.on version v;
    }

    module _ {a : A} {at n : ℕ} (w : Goes start from most a at n) (c : EventCursor) (v : c.version < 4)
        (place : c.at ≡ from) where
      all : foldl f start (first_events most file (first_cursor c.version from))
          ≡ foldl f start (first_events most file c)
      all = ap (foldl f start) (same_old file c (first_cursor c.version from) v refl (sym place) most)

      pub goes_over : {code : ℕ} → code ≡ old_code file at → code ≡ 0
          → a ≡ foldl f start (first_events most file c)
      goes_over e z =
          sym (ap (foldl f a) (over file c.version v at (sym z ∙ e) n)) ∙ w.on c.version v ∙ all

      pub goes_none : n ≤ 0 → a ≡ foldl f start (first_events most file c)
      goes_none l =
          sym (ap (foldl f a) (first-zero file (first_cursor c.version at) n l)) ∙ w.on c.version v ∙ all

-- a fold that keeps the number of lent cells
module _ {A : Type 0} (f : A × List ℕ → Event → A × List ℕ)
    (long : (a : A × List ℕ) (e : Event) → length (f a e).1 ≡ length a.1) where
  pub goes-more : (file : List ℕ) {start : A × List ℕ} {from most j : ℕ} (a : A × List ℕ) {s : A} {d : List ℕ}
      (at n code : ℕ) → 0 < n → code ≡ old_code file at → code ≢ 0
      → ((version : ℕ)
      → (s ≡ (f a (eventAt file version at code)).0) × (d ≡ (f a (eventAt file version at code)).1))
      → Goes f file start from most a at n × (length a.1 ≡ j)
      → Goes f file start from most (s, d) (at + 8) (n - 1) × (length d ≡ j)
  goes-more file a at n code l e some same w = (
    goes-next f file n (n - 1) code (omega arith) e some (λ version. both_is (same version)) w.0,
    kept f long a (eventAt file 0 at code) (same 0).1 w.1,
  )

-- WHAT A CODE DOES
-- the codes above 9, which have names in version 3 alone
high : (P : MouseKind → Type 0) → P L → P R → P M → P Ub → (code : ℕ) → 9 < code → P (kind_of code)
unfolding kind_of
high P l r m u zero h = absurd (omega arith)
high P l r m u (suc zero) h = absurd (omega arith)
high P l r m u (suc (suc zero)) h = absurd (omega arith)
high P l r m u (suc (suc (suc zero))) h = absurd (omega arith)
high P l r m u (suc (suc (suc (suc zero)))) h = absurd (omega arith)
high P l r m u (suc (suc (suc (suc (suc zero))))) h = absurd (omega arith)
high P l r m u (suc (suc (suc (suc (suc (suc zero)))))) h = absurd (omega arith)
high P l r m u (suc (suc (suc (suc (suc (suc (suc zero))))))) h = absurd (omega arith)
high P l r m u (suc (suc (suc (suc (suc (suc (suc (suc zero)))))))) h = absurd (omega arith)
high P l r m u (suc (suc (suc (suc (suc (suc (suc (suc (suc zero))))))))) h = absurd (omega arith)
high P l r m u (suc (suc (suc (suc (suc (suc (suc (suc (suc (suc zero)))))))))) h = l
high P l r m u (suc (suc (suc (suc (suc (suc (suc (suc (suc (suc (suc zero))))))))))) h = r
high P l r m u (suc (suc (suc (suc (suc (suc (suc (suc (suc (suc (suc (suc zero)))))))))))) h = m
high P l r m u (suc (suc (suc (suc (suc (suc (suc (suc (suc (suc (suc (suc (suc code))))))))))))) h = u

-- what holds alike of these kinds and of ub does not tell the versions apart
module _ {A : Type 0} (f : MouseKind → A) (l : f Ub ≡ f L) (r : f Ub ≡ f R) (m : f Ub ≡ f M) where
  pub kind-same : (version code : ℕ) → f (kind_in version code) ≡ f (kind_of code)
  unfolding kind_in
  kind-same version code =
      (elim (ltb 9 code && ltb version 3) as
      (λ b. (ltb 9 code && ltb version 3) ≡ b → f (cond b Ub (kind_of code)) ≡ f (kind_of code)) [
        | true ↦ λ e. high (λ k. f Ub ≡ f k) l r m refl code
            (ltb-true 9 code ((and-eq-true_iff (ltb 9 code) (ltb version 3)).0 e).0)
        | false ↦ λ e. refl
      ])
      refl

pub kind_now : (code : ℕ) → kind_in 4 code ≡ kind_of code
unfolding kind_in
kind_now code =
    elim (ltb 9 code) as (λ b. cond (b && false) Ub (kind_of code) ≡ kind_of code) [
      | true ↦ refl
      | false ↦ refl
    ]

pub presses_same : (version code : ℕ) (b : Buttons)
    → pressed_kind b (kind_in version code) ≡ pressed_kind b (kind_of code)
presses_same version code b = kind-same (pressed_kind b) refl refl refl version code

acts_same : (version code : ℕ) → act_of (kind_in version code) ≡ act_of (kind_of code)
acts_same = kind-same act_of refl refl refl

-- so that a record is played by its code alone
pub played_same : (board : List ℤ) (cells : List ℕ) (p : Position) (code x y : ℕ) {r : Position} {d : List ℕ}
    → (r ≡ position_acted board cells p (act_of (kind_of code)) x y)
    × (d ≡ cells_acted board cells p (act_of (kind_of code)) x y)
    → (version : ℕ)
    → (r ≡ position_acted board cells p (act_of (kind_in version code)) x y)
    × (d ≡ cells_acted board cells p (act_of (kind_in version code)) x y)
played_same board cells p code x y e version = acted_is board cells p x y (sym (acts_same version code)) e

-- an idle code does nothing, and is not that of an rc
pub idle_kind : (code : ℕ) {b : Bool} → b ≡ is_idle code → b ≡ true
    → (act_of (kind_of code) ≡ Nothing) × (is_rc (kind_of code) ≡ false)
unfolding kind_of is_idle
idle_kind zero e t = (refl, refl)
idle_kind (suc zero) e t = (refl, refl)
idle_kind (suc (suc zero)) e t = (refl, refl)
idle_kind (suc (suc (suc zero))) e t = absurd (false≢true (sym e ∙ t))
idle_kind (suc (suc (suc (suc zero)))) e t = absurd (false≢true (sym e ∙ t))
idle_kind (suc (suc (suc (suc (suc zero))))) e t = (refl, refl)
idle_kind (suc (suc (suc (suc (suc (suc zero)))))) e t = (refl, refl)
idle_kind (suc (suc (suc (suc (suc (suc (suc zero))))))) e t = (refl, refl)
idle_kind (suc (suc (suc (suc (suc (suc (suc (suc zero)))))))) e t = absurd (false≢true (sym e ∙ t))
idle_kind (suc (suc (suc (suc (suc (suc (suc (suc (suc zero))))))))) e t = (refl, refl)
idle_kind (suc (suc (suc (suc (suc (suc (suc (suc (suc (suc zero)))))))))) e t = (refl, refl)
idle_kind (suc (suc (suc (suc (suc (suc (suc (suc (suc (suc (suc zero))))))))))) e t = (refl, refl)
idle_kind (suc (suc (suc (suc (suc (suc (suc (suc (suc (suc (suc (suc zero)))))))))))) e t = (refl, refl)
idle_kind (suc (suc (suc (suc (suc (suc (suc (suc (suc (suc (suc (suc (suc n))))))))))))) e t = (refl, refl)
