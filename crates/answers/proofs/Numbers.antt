-- The number of 01 that an answer has is that of the definition of its call: nothing is told as another case.
-- Assumes that files are bytes and that a lent copy is shorter than the largest usize.
--     upgrade-number, resave-number    of each call
use Prim.Native.Nat.{ℕ, ◌≤◌, ◌<◌}
use mathlib.Core.Path.{◌≡◌, refl, sym, ap, ◌∙◌}
use mathlib.Core.Bool.{true, false, cond}
use mathlib.Core.List.{List}
use lib.Dec.{leb, ltb}
use lib.ListN.{length}
use borrow.Author.Tests.{leb-true, leb-false, ltb-true, ltb-false}
use Rattle.game.specs.Refusals.{file_buffer_short}
use Rattle.byte_reader.specs.Reading.{Bytes}
use Rattle.byte_writer.specs.Places.{most}
use Rattle.evf_video.specs.Reading.{reading_of}
use Rattle.generate_evf.specs.Written.{written_number}
use Rattle.upgrade.specs.Copy.{shortest_copy, copied_by}
use Rattle.upgrade.proofs.Numbers.{apart}
use Rattle.resave.specs.Resaved.{resaved_by}
use Rattle.resave.specs.Page.{ResaveCall}
use Rattle.resave.proofs.Page.{told_apart}
use Rattle.answers.specs.declared.Answer.{Answer}
use Rattle.answers.specs.declared.Answer.TheVariants.{Written, Refused, Short}
use Rattle.answers.specs.Answers.{toldApart, answerNumber, TellsUpgrade, TellsResave}

-- the number k of an answer, by what its one number n says into so much room
module _ (k n room : ℕ) (bad : n < shortest_copy → k ≡ n) (fits : shortest_copy ≤ n → n ≤ room → k ≡ 0)
    (long : shortest_copy ≤ n → room < n → k ≡ file_buffer_short) where
  told-number : answerNumber (toldApart n room) ≡ k
  told-number =
      (elim (ltb n shortest_copy)
      as (λ b. ltb n shortest_copy ≡ b
      → answerNumber (cond b (Refused n) (cond (leb n room) (Written n) (Short n))) ≡ k) [
        | true ↦ λ q. sym (bad (ltb-true n shortest_copy q))
        | false ↦ λ q. lengths (ltb-false n shortest_copy q)
      ]) refl
    where
      lengths : shortest_copy ≤ n → answerNumber (cond (leb n room) (Written n) (Short n)) ≡ k
      lengths h =
          (elim (leb n room)
          as (λ b. leb n room ≡ b → answerNumber (cond b (Written n) (Short n)) ≡ k) [
            | true ↦ λ q. sym (fits h (leb-true n room q))
            | false ↦ λ q. sym (long h (leb-false n room q))
          ]) refl

module _ {file copy copy' : List ℕ} {rule : ℕ} {r : Answer} (small : Bytes file)
    (below : length copy < most) where
  pub upgrade-number : TellsUpgrade file copy rule r copy'
      → answerNumber r ≡ written_number (copied_by rule file (reading_of file) (length copy))
  upgrade-number t =
      let p = apart small below t.kept in
      ap answerNumber t.answer_is
      ∙ told-number _ _ _ (λ l. ap written_number (p.0 l)) (λ l h. ap written_number (p.1.0 l h))
      (λ l h. ap written_number (p.1.1 l h))

  pub resave-number : TellsResave file copy rule r copy'
      → answerNumber r ≡ written_number (resaved_by rule file (reading_of file) (length copy))
  resave-number t =
      let call : ResaveCall = record {
        file = file;
        copy = copy;
        rule = rule;
        answer = resaved_by rule file (reading_of file) (length copy);
        copy' = copy';
        bytes = small;
        below = below;
        promised = record { answer_is = refl; copy_is = t.kept.copy_is };
      } in
      let p = told_apart call in
      ap answerNumber (t.answer_is ∙ ap (λ (n : ℕ). toldApart n (length copy)) t.kept.answer_is)
      ∙ told-number _ _ _ p.0 (λ l h. ap written_number (p.1.0 l h)) p.1.1
