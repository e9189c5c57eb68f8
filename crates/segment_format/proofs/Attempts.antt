-- Behind its header a text is that of its items.
use Rattle.std.proofs.Common.{◌≡◌, ℕ, ◌+◌, List, ◌++◌, length, drop, refl, sym, ap, ◌∙◌}
use Rattle.std.specs.List.{flat_map}
use Rattle.std.proofs.lemmas.List.{drop_at, length-append}
use Rattle.segment_format.specs.declared.head.Head.{Head}
use Rattle.segment_format.specs.declared.segment.Item.{Item}
use Rattle.segment_format.specs.declared.segment.Segment.{Segment}
use Rattle.segment_format.specs.Format.{mark, header_length}
use Rattle.segment_format.specs.Text.{item_text, head_text, head_of, IsText}

length-header : (h : Head) → length (mark ++ head_text h) ≡ header_length
length-header h = refl

behind_header : (a : List ℕ) (s : Segment) → IsText a s → drop header_length a ≡ flat_map item_text s.items
behind_header a s p =
    ap (λ (l : List ℕ). drop header_length l) p.spelled
    ∙ drop_at (mark ++ head_text (head_of s)) (flat_map item_text s.items) header_length (length-header (head_of s))

length-text : (a : List ℕ) (s : Segment) → IsText a s → length a ≡ header_length + length (flat_map item_text s.items)
length-text a s p = ap (λ (l : List ℕ). length l) p.spelled ∙ length-append (mark ++ head_text (head_of s)) (flat_map item_text s.items)

pub one_content : (a b : List ℕ) (s t : Segment) → IsText a s → IsText b t → s.items ≡ t.items → drop header_length a ≡ drop header_length b
one_content a b s t p q e = behind_header a s p ∙ ap (λ (items : List Item). flat_map item_text items) e ∙ sym (behind_header b t q)

pub one_length : (a b : List ℕ) (s t : Segment) → IsText a s → IsText b t → s.items ≡ t.items → length a ≡ length b
one_length a b s t p q e = length-text a s p ∙ ap (λ (items : List Item). header_length + length (flat_map item_text items)) e ∙ sym (length-text b t q)
