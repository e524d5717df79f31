-- A text settles what is printed: it has one list of lines; and what the program reads of an input that is too long prints what that does.
use Prim.Native.Nat.{ℕ, ◌≤◌, ◌<◌}
use mathlib.Core.Path.{◌≡◌, refl, sym, ap, ap₂, ◌∙◌, subst}
use mathlib.Core.List.{List, [], ◌∷◌, ◌++◌, append-nil}
use mathlib.Core.Logic.{inl, by_cases}
use native.Mathlib.Decide.{dec_le}
use native.Mathlib.Omega.{arith}
use lib.ListN.{length, take}
use lib.Seq.{length-take-le, take_all, take-append_seam}
use Rattle.std.proofs.Common.{Option, None, Some, IfSome}
use Rattle.std.specs.Io.KnownBytes.{Consumes, IsAtEnd}
use Rattle.terms.specs.Refusals.{FirstOf, NoneOf}
use Rattle.terms.proofs.Listed.{listed_one}
use Rattle.terms.proofs.Verdicts.{first_of_same, first_or_none}
use Rattle.formula.specs.Lent.{Formula}
use Rattle.formula.specs.Meaning.{level}
use Rattle.formula_rules.specs.Rules.{check_order}
use Rattle.text_qdimacs.specs.Reading.{Overlong, overlong}
use Rattle.text_qdimacs.proofs.Unique.{text_same}
use Rattle.listing_lines.specs.Lines.{universal_line, refused_line}
use Rattle.listing.specs.Listing.{text_order, IsRead, Refuses, not_read, not_accepted, LineOf, LinesOf, no_line, one_more, Lists, lists, Prints, refusal, listing}
use Rattle.listing.specs.Listing.{AllPrinted}

-- A text is that of one formula ...
formula_one : {text : List ℕ} {f g : Formula} → IsRead text f → IsRead text g → f ≡ g
formula_one a b =
    let same = text_same a.text_of b.text_of in
    λ i. record { n = same.number i; prefix = same.prefix i; clauses = same.clauses i }

-- ... has one refusal ...
refusal_one : {text : List ℕ} {k p k' p' : ℕ} → Refuses text k p → Refuses text k' p' → (k ≡ k') × (p ≡ p')
refusal_one {text} {k} {p} {k'} {p'} (not_read a) (not_read b) = first_of_same (text_order text) k p k' p' a b
refusal_one {text} {k} {p} (not_read a) (not_accepted _ r _) = absurd (first_or_none (text_order text) k p a r.none)
refusal_one {text} {k' = k'} {p' = p'} (not_accepted _ r _) (not_read b) = absurd (first_or_none (text_order text) k' p' b r.none)
refusal_one {k = k} {p = p} {k' = k'} {p' = p'} (not_accepted f r a) (not_accepted g s b) =
    first_of_same (check_order 1 g) k p k' p' (subst (λ (h : Formula). FirstOf (check_order 1 h) k p) (formula_one r s) a) b

-- ... or none, where its formula is accepted.
not_both : {text : List ℕ} {k p : ℕ} {f : Formula} → Refuses text k p → IsRead text f → NoneOf (check_order 1 f) → ⊥
not_both {text} {k} {p} (not_read a) r none = first_or_none (text_order text) k p a r.none
not_both {k = k} {p = p} {f = f} (not_accepted g s a) r none =
    first_or_none (check_order 1 f) k p (subst (λ (h : Formula). FirstOf (check_order 1 h) k p) (formula_one s r) a) none

-- A universal has one line, and so has a formula one list of lines ...
line_one : {f : Formula} {x : ℕ} {line other : List ℕ} → LineOf f x line → LineOf f x other → line ≡ other
line_one {f} {x} a b =
    let entries = listed_one a.entries b.entries a.entries_are b.entries_are in
    let set = listed_one a.set b.set a.set_is b.set_is in
    a.is ∙ ap₂ (universal_line x (level f.prefix x)) entries set ∙ sym b.is

lines_one : {f : Formula} {xs : List ℕ} {lines others : List (List ℕ)} → LinesOf f xs lines → LinesOf f xs others → lines ≡ others
lines_one no_line no_line = refl
lines_one (one_more a more) (one_more b rest) = ap₂ ◌∷◌ (line_one a b) (lines_one more rest)

lists_one : {f : Formula} {lines others : List (List ℕ)} → Lists f lines → Lists f others → lines ≡ others
lists_one {f} (lists {lines = lines} xs head all own) (lists ys head' all' own') =
    ap₂ ◌∷◌ (head ∙ sym head') (lines_one (subst (λ (zs : List ℕ). LinesOf f zs lines) (listed_one xs ys all all') own) own')

-- ... and a text.
pub prints_one : {text : List ℕ} {lines others : List (List ℕ)} → Prints text lines → Prints text others → lines ≡ others
prints_one (refusal a) (refusal b) = let (k, p) = refusal_one a b in ap₂ (λ (k p : ℕ). refused_line k p ∷ []) k p
prints_one (refusal a) (listing f r none _) = absurd (not_both a r none)
prints_one (listing f r none _) (refusal b) = absurd (not_both b r none)
prints_one (listing {lines} f r _ a) (listing g s _ b) = lists_one (subst (λ (h : Formula). Lists h lines) (formula_one r s) a) b

-- A text that is too long has the refusal 15, whatever it is.
overlong_is : {text : List ℕ} {k p : ℕ} → Overlong text k p → (15 ≤ k) × (65536 ≤ p)
overlong_is (overlong _) = (omega arith, omega arith)

too_long : (text : List ℕ) → 65536 < length text → Prints text (refused_line 15 65536 ∷ [])
too_long text l =
    refusal (not_read (inl (record { holds = overlong l; leftmost = λ k p c. (overlong_is c).1; lowest = λ k c. (overlong_is c).0 })))

-- So what is read of an input, if that is more than a text may have, prints what the input does.
pub prints_cut : (most : ℕ) (input : List ℕ) {lines : List (List ℕ)} → 65536 < most → Prints (take most input) lines → Prints input lines
prints_cut most input {lines} over p = by_cases (dec_le (length input) most) whole cut
  where
    whole : length input ≤ most → Prints input lines
    whole l = subst (λ (text : List ℕ). Prints text lines) (take_all most input l) p

    cut : ¬ (length input ≤ most) → Prints input lines
    cut l =
        let size = length-take-le most input (omega arith) in
        subst (Prints input) (prints_one (too_long (take most input) (omega arith)) p) (too_long input (omega arith))

-- What stands in front of a buffer of more bytes than a text may have, once an input was read into it until it was full or the input ended.
read_front : (most : ℕ) (input rest text : List ℕ) (got : ℕ) → length text ≡ most → got ≤ length text → input ≡ take got text ++ rest
    → (got < length text → rest ≡ []) → take most input ≡ take got text
read_front most input rest text got size within is ended = by_cases (dec_le most got) full short
  where
    front : length (take got text) ≡ got
    front = length-take-le got text within

    full : most ≤ got → take most input ≡ take got text
    full l =
        let all : most ≡ length (take got text) = let f = front in omega arith in
        ap₂ take all is ∙ take-append_seam (take got text) rest

    short : ¬ (most ≤ got) → take most input ≡ take got text
    short l =
        let none = ended (omega arith) in
        let whole = is ∙ ap (λ (bytes : List ℕ). take got text ++ bytes) none ∙ append-nil (take got text) in
        let f = front in
        ap (take most) whole ∙ take_all most (take got text) (omega arith)

-- So the lines of what was read are those of the input, where that is known.
pub printed_whole : (input after : Option (List ℕ)) (text : List ℕ) (got : ℕ) (held holds : Option (List ℕ)) (told : Option ℕ)
    → length text ≡ 65537 → got ≤ length text → Consumes input after (take got text) → (got < length text → IsAtEnd after)
    → AllPrinted (Prints (take got text)) held holds told → IfSome input (λ (bytes : List ℕ). AllPrinted (Prints bytes) held holds told)
printed_whole None after text got held holds told size within read ended p = tt
printed_whole (Some bytes) None text got held holds told size within read ended p = absurd read
printed_whole (Some bytes) (Some rest) text got held holds None size within read ended p = p
printed_whole (Some bytes) (Some rest) text got held holds (Some count) size within read ended (lines, prints, counted, wrote) =
    let cut = read_front 65537 bytes rest text got size within read ended in
    (lines, prints_cut 65537 bytes (omega arith) (subst (λ (front : List ℕ). Prints front lines) (sym cut) prints), counted, wrote)
