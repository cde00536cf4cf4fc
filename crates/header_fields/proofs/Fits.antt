-- What is sure of the fields that every version has: numbers fit their widths, and no second flags before
-- version 3; and what is sure of a whole front. Assumes nothing but that the file is bytes.
use Prim.Native.Nat.{ℕ, ◌^◌, ◌<◌}
use mathlib.Core.Path.{◌≡◌, refl}
use mathlib.Core.List.{List, [], ◌∷◌}
use native.Mathlib.Omega.{arith}
use lib.Dec.{leb}
use borrow.Author.Tests.{leb-true}
use Rattle.text.specs.declared.Place.{Place}
use Rattle.text.specs.Places.{Inside}
use Rattle.byte_reader.specs.Reading.{Bytes, pure}
use Rattle.byte_reader.specs.Numbers.{number}
use Rattle.header_fields.specs.declared.Sizes.{Sizes}
use Rattle.header_fields.specs.declared.Span.{Span}
use Rattle.header_fields.specs.declared.Front.{Front}
use Rattle.header_fields.specs.Fields.{flags, sizes, texts_of}
use Rattle.header_fields.proofs.Sure.{Sure, sure-then, sure-pure, sure-weaken, sure-if, sure-number}

pub record SizesFit (z : Sizes) : Type 0 where
  pub height : z.height < 256
  pub width : z.width < 256
  pub mines : z.mine_num < 65536
  pub pixels : z.cell_pixel_size < 256
  pub mode : z.mode < 65536
  pub bbbv : z.bbbv < 65536

pub record SpanFits (span : Span) : Type 0 where
  pub start : span.start.0 < 2 ^ 64
  pub end : span.end.0 < 2 ^ 64

module _ (s : List ℕ) (small : Bytes s) where
  pub sizes-sure : Sure s sizes SizesFit
  unfolding sizes
  sizes-sure =
      sure-then s _ (sure-number s small 1) (λ height h.
      sure-then s _ (sure-number s small 1) (λ width w.
      sure-then s _ (sure-number s small 2) (λ mines m.
      sure-then s _ (sure-number s small 1) (λ pixels p.
      sure-then s _ (sure-number s small 2) (λ mode o.
      sure-then s _ (sure-number s small 2) (λ bbbv b.
      sure-pure s _ (record { height = h; width = w; mines = m; pixels = p; mode = o; bbbv = b })))))))

  -- no second flags before version 3
  pub flags-sure : (version : ℕ) → Sure s (flags version) (λ f. version < 3 → f.second ≡ 0)
  unfolding flags
  flags-sure version =
      sure-then s _ (sure-number s small 1) (λ first f.
      sure-then s {P = λ (n : ℕ). version < 3 → n ≡ 0} _
      (sure-if s (leb 3 version) (number 1) (pure 0)
      (λ e. sure-weaken s (sure-number s small 1) (λ n l h. absurd (omega (arith, leb-true 3 version e))))
      (λ e. sure-pure s _ (λ h. refl))) (λ second h.
      sure-pure s _ h))

-- places that all end in the file
abbrev pub AllIn : List ℕ → List Place → Type 0
AllIn s [] = Unit {0}
AllIn s (p ∷ l) = Inside s p × AllIn s l

pub record FrontIs (s : List ℕ) (t : Front) : Type 0 where
  pub sizes : SizesFit t.sizes
  pub time : t.time.0 < 2 ^ 32
  pub span : SpanFits t.span
  pub texts_in : AllIn s (texts_of t.texts)
