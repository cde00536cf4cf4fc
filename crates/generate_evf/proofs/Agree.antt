-- Sizing and writing agree, in both versions and however seconds become milliseconds. Assumes nothing but
-- that the room ends where a usize does.
--     agree           sizing answers what the writer's answer tells
--     size-says       the length that sizing answers is the true one, capped. size-true below the largest
--                     usize it is the true one
--     written-says    a writer answers Bytes n only where the true length is n and there is room for it, and
--                     Short only where there is not
--     bytes-where     it does answer Bytes n there. bytes-sized which, in a room below the largest usize,
--                     sizing tells alone
--     short-where     and Short where there is no room
use Prim.Native.Nat.{ℕ, ◌≤◌, ◌<◌}
use mathlib.Core.Path.{◌≡◌, refl, sym, ap, subst, ◌∙◌}
use mathlib.Core.Bool.{Bool, true, false, cond}
use native.Mathlib.Omega.{arith}
use lib.Dec.{leb}
use lib.ListN.{length}
use borrow.Author.Tests.{leb-true, leb-false, le-leb, lt-leb}
use Rattle.times.specs.Times.{s_to_ms}
use Rattle.game.specs.Same.{Game}
use Rattle.byte_writer.specs.Places.{most, capped}
use Rattle.byte_writer.proofs.Laws.{small}
use Rattle.evf_layout.specs.Layout.{file_of}
use Rattle.evf_judging.specs.declared.Verdict.{Verdict}
use Rattle.evf_judging.specs.declared.Verdict.TheVariants.{Fine, Refused as Bad}
use Rattle.evf_judging.specs.Refusals.{first_refusal, checks_under}
use Rattle.generate_evf.specs.declared.Size.{Size}
use Rattle.generate_evf.specs.declared.Size.TheVariants.{Bytes as Takes, Refused as Unsized}
use Rattle.generate_evf.specs.declared.Written.{Written}
use Rattle.generate_evf.specs.declared.Written.TheVariants.{Bytes, Refused, Short}
use Rattle.generate_evf.specs.Written.{size_by, size_of, written_by, written_of, size_in}

-- BY THE VERDICT on a game whose file has n bytes

-- 1 where a length is answered
abbrev is_sized : Size → ℕ
is_sized (Takes n) = 1
is_sized (Unsized k) = 0

-- a length is answered only where nothing is refused
fine_of : (v : Verdict) (n m : ℕ) → size_by v n ≡ Takes m → v ≡ Fine
fine_of Fine n m e = refl
fine_of (Bad k) n m e = absurd (let z : ◌≡◌ {A = ℕ} 0 1 = ap is_sized e in omega arith)

agree_by : (v : Verdict) (n room : ℕ) → room ≤ most → size_by v n ≡ size_in (written_by v n room)
agree_by Fine n room l =
    (elim (leb n room) as
    (λ t. leb n room ≡ t → Takes (capped n) ≡ size_in (cond t (Bytes n) (Short (capped n)))) [
      | true ↦ λ t. ap Takes (small n (omega (arith, leb-true n room t, l)))
      | false ↦ λ t. refl
    ])
    refl
agree_by (Bad k) n room l = refl

-- what a writer's answer says of the file's n bytes and the room
abbrev Fits : (n room : ℕ) → Written → Type 0
Fits n room (Bytes m) = (n ≡ m) × (m ≤ room)
Fits n room (Short m) = (room < n) × (m ≡ capped n)
Fits n room (Refused k) = Unit {0}

fits_by : (v : Verdict) (n room : ℕ) → Fits n room (written_by v n room)
fits_by Fine n room =
    (elim (leb n room) as (λ t. leb n room ≡ t → Fits n room (cond t (Bytes n) (Short (capped n)))) [
      | true ↦ λ t. (refl, leb-true n room t)
      | false ↦ λ t. (leb-false n room t, refl)
    ])
    refl
fits_by (Bad k) n room = tt

abbrev Capped : (n : ℕ) → Size → Type 0
Capped n (Takes m) = m ≡ capped n
Capped n (Unsized k) = Unit {0}

capped_by : (v : Verdict) (n : ℕ) → Capped n (size_by v n)
capped_by Fine n = refl
capped_by (Bad k) n = tt

-- OF A GAME
module _ (rule version : ℕ) (g : Game) where
  abbrev verdict : Verdict
  verdict = first_refusal (checks_under rule version g)

  -- the true length
  abbrev long : ℕ
  long = length (file_of (s_to_ms rule) version g)

  pub agree : (room : ℕ) → room ≤ most → size_of rule version g ≡ size_in (written_of rule version g room)
  unfolding size_of written_of
  agree room l = agree_by verdict long room l

  pub size-says : (n : ℕ) → size_of rule version g ≡ Takes n → n ≡ capped (length (file_of
      (s_to_ms rule) version g))
  unfolding size_of
  size-says n e = subst (Capped long) e (capped_by verdict long)

  pub size-true : (n : ℕ) → size_of rule version g ≡ Takes n → n < most
      → length (file_of (s_to_ms rule) version g) ≡ n
  size-true n e l = let c = size-says n e in omega arith

  -- what a writer's answer says
  abbrev pub Says : (room : ℕ) → Written → Type 0
  Says room (Bytes n) =
      (size_of rule version g ≡ Takes n) × ((length (file_of (s_to_ms rule) version g) ≡ n) × (n ≤ room))
  Says room (Short n) =
      (size_of rule version g ≡ Takes n)
      × ((room < length (file_of (s_to_ms rule) version g)) × (n ≡ capped (length (file_of
      (s_to_ms rule) version g))))
  Says room (Refused k) = size_of rule version g ≡ Unsized k

  says : (room : ℕ) (a : Written) → size_of rule version g ≡ size_in a → Fits long room a → Says room a
  says room (Bytes n) e f = (e, f)
  says room (Short n) e f = (e, f)
  says room (Refused k) e f = e

  pub written-says : (room : ℕ) → room ≤ most → Says room (written_of rule version g room)
  unfolding written_of
  written-says room l = says room (written_of rule version g room) (agree room l) (fits_by verdict long room)

  -- nothing is refused, so the room decides
  roomed : (n room : ℕ) → size_of rule version g ≡ Takes n
      → written_of rule version g room ≡ cond (leb (length (file_of (s_to_ms rule) version g)) room)
      (Bytes (length (file_of (s_to_ms rule) version g))) (Short (capped (length (file_of
      (s_to_ms rule) version g))))
  unfolding size_of written_of
  roomed n room e = ap (λ (v : Verdict). written_by v long room) (fine_of verdict long n e)

  pub bytes-where : (n room : ℕ) → size_of rule version g ≡ Takes n
      → length (file_of (s_to_ms rule) version g) ≡ n
      → n ≤ room → written_of rule version g room ≡ Bytes n
  bytes-where n room e q l =
      let t : leb long room ≡ true = le-leb long room (omega (arith, q, l)) in
      roomed n room e ∙ ap (λ (t : Bool). cond t (Bytes long) (Short (capped long))) t ∙ ap Bytes q

  pub bytes-sized : (n room : ℕ) → size_of rule version g ≡ Takes n → n ≤ room → room < most
      → written_of rule version g room ≡ Bytes n
  bytes-sized n room e l m = bytes-where n room e (size-true n e (omega (arith, l, m))) l

  pub short-where : (n room : ℕ) → size_of rule version g ≡ Takes n
      → room < length (file_of (s_to_ms rule) version g)
      → written_of rule version g room ≡ Short n
  short-where n room e l =
      roomed n room e ∙ ap (λ (t : Bool). cond t (Bytes long) (Short (capped long))) (lt-leb long room l)
      ∙ ap Short (sym (size-says n e))
