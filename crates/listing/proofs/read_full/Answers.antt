-- What a read gave stands behind what the reads before it gave (read_behind).
use Rattle.std.proofs.Common.{◌≡◌, ℕ, ◌+◌, ◌≤◌, List, ◌++◌, length, take, drop, sym, ap, ◌∙◌, subst, rules, drop_at, length-take-le}
use Rattle.std.specs.Io.KnownBytes.{Consumes}
use Rattle.std.proofs.KnownBytes.{Consumes-trans}
use borrow.Rule.Slice.PartMut.{put_mid, post_of}
use lib.Seq.{take-add, take-append-le, take-append_seam}
use Rattle.listing.proofs.read_full.Goals as goal

read_behind : (at room got : ℕ) (xs ys : List ℕ) → at ≤ length xs → got ≤ length ys → take (at + got) (put_mid at room xs ys) ≡ take at xs ++ take got ys
read_behind at room got xs ys within fits =
    let behind = ys ++ post_of at room xs in
    let size = length-take-le at xs within in
    let front : take at (put_mid at room xs ys) ≡ take at xs =
    ap (λ (k : ℕ). take k (take at xs ++ behind)) (sym size) ∙ take-append_seam (take at xs) behind in
    let rest = ap (take got) (drop_at (take at xs) behind at size) ∙ take-append-le got ys (post_of at room xs) fits in
    take-add at got (put_mid at room xs ys) ∙ ap (λ (bytes : List ℕ). bytes ++ take got (drop at (put_mid at room xs ys))) front ∙ ap (λ (bytes : List ℕ). take at xs ++ bytes) rest

pub loop-count-preserved : goal.loop-count-preserved
loop-count-preserved g c =
    let l = c.loop-count in
    let is = read_behind l.count _ c.in_ok-got.got l.text c.read.new.buf l.invariant.within c.in_ok-got.ensures.bound.0 in
    record {
      within = search rules;
      read = subst (Consumes _ _) (sym is) (Consumes-trans _ _ _ _ _ l.invariant.read c.in_ok-got.ensures.bytes.0);
    }
