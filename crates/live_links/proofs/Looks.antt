-- What a look at the ends leaves as it was.
use Rattle.std.proofs.Common.{◌≡◌, refl, sym, subst, ◌∙◌, ℕ, ◌<◌, List, length, Some, arith}
use Rattle.std.specs.Prelude.{slice_get, slice_set}
use Rattle.std.specs.List.{Contains}
use Rattle.std.proofs.lemmas.Option.{slice_get_within}
use Rattle.rtrb.specs.Ring.{received, sent}
use Rattle.journals.proofs.Gets.{has}
use Rattle.live_links.specs.declared.letter.Letter.{Letter}
use Rattle.live_links.specs.Ends.{AtEach, In, KnowsRow, Out, RowPairs, StillIn, StillOut, StillRow}
use Rattle.live_links.proofs.Each.{each_same, each_set, each_then, in_then, out_then, pair_after, pair_then, same_in, same_out}

still_in : (k : ℕ) (c : In) → StillIn k c c
still_in k c = (same_in c, refl)

still_out : (k : ℕ) (o : Out) → StillOut k o o
still_out k o = (same_out o, refl)

still_row : (k : ℕ) (row : List Out) → StillRow k row row
still_row k row = each_same StillOut still_out row

in_trans : (k : ℕ) (a b c : In) → StillIn k a b → StillIn k b c → StillIn k a c
in_trans k a b c f g = (in_then a b c f.0 g.0, g.1 ∙ f.1)

out_trans : (k : ℕ) (a b c : Out) → StillOut k a b → StillOut k b c → StillOut k a c
out_trans k a b c f g = (out_then a b c f.0 g.0, g.1 ∙ f.1)

row_trans : (k : ℕ) (a b c : List Out) → StillRow k a b → StillRow k b c → StillRow k a c
row_trans k a b c f g = each_then StillOut StillOut StillOut out_trans a b c f g

pub outs_same : (xs : List (List Out)) → AtEach StillRow xs xs
outs_same xs = each_same StillRow still_row xs

pub ins_set : (start mid : List In) (i : ℕ) (c d : In) → AtEach StillIn start mid → slice_get mid i ≡ Some c → StillIn i c d → AtEach StillIn start (slice_set mid i d)
ins_set start mid i c d far at s = each_then StillIn StillIn StillIn in_trans start mid (slice_set mid i d) far (each_set StillIn mid (slice_set mid i d) i c d (λ k z there apart. still_in k z) at refl s)

pub outs_set : (start mid : List (List Out)) (i : ℕ) (a b : List Out) → AtEach StillRow start mid → slice_get mid i ≡ Some a → StillRow i a b → AtEach StillRow start (slice_set mid i b)
outs_set start mid i a b far at s = each_then StillRow StillRow StillRow row_trans start mid (slice_set mid i b) far (each_set StillRow mid (slice_set mid i b) i a b (λ k z there apart. still_row k z) at refl s)

pub outs_then : (a b c : List (List Out)) → AtEach StillRow a b → AtEach StillRow b c → AtEach StillRow a c
outs_then a b c f g = each_then StillRow StillRow StillRow row_trans a b c f g

-- the pairs are still pairs
pub pairs_still : (place : ℕ) (ends : List In) (outs : List (List Out)) (ends' : List In) (outs' : List (List Out)) → AtEach StillIn ends ends' → AtEach StillRow outs outs'
    → RowPairs place ends outs → RowPairs place ends' outs'
pairs_still place ends outs ends' outs' e f r = record {
  count = e.0 ∙ r.count ∙ sym f.0;
  within = λ p row at.
      let len = f.0 in
      let here = slice_get_within outs' p row at in
      let old = has outs p (omega arith) in
      let count = (f.1 p old.0 row old.1 at).0 in
      let below = r.within p old.0 old.1 in
      omega arith;
  pairs = λ p d row o at_d at_row at_o.
      let len_e = e.0 in
      let here_d = slice_get_within ends' p d at_d in
      let c = has ends p (omega arith) in
      let len_f = f.0 in
      let here_row = slice_get_within outs' p row at_row in
      let old = has outs p (omega arith) in
      let still = f.1 p old.0 row old.1 at_row in
      let count = still.0 in
      let here_o = slice_get_within row place o at_o in
      let q = has old.0 place (omega arith) in
      let was = r.pairs p c.0 old.0 q.0 c.1 old.1 q.1 in
      pair_then q.0 o d (still.1 place q.0 o q.1 at_o).0 (pair_after q.0 c.0 d was (e.1 p c.0 d c.1 at_d).0);
}

-- what is known of the ends as they are now is known of them as they were
pub known_before : (place : ℕ) (ends : List In) (outs : List (List Out)) (ends' : List In) (outs' : List (List Out)) → AtEach StillIn ends ends' → AtEach StillRow outs outs'
    → (p : ℕ) (d : In) (now : List Out) → slice_get ends' p ≡ Some d → slice_get outs' p ≡ Some now → place < length now
    → ((o : Out) (l : Letter) → slice_get now place ≡ Some o → Contains (received d) l → Contains (sent o) l)
    → (c : In) (row : List Out) (o : Out) (x : Letter) → slice_get ends p ≡ Some c → slice_get outs p ≡ Some row → slice_get row place ≡ Some o → Contains (received c) x → Contains (sent o) x
known_before place ends outs ends' outs' e f p d now at_d at_now within known c row o x at_c at_row at_o found =
    let here = f.1 p row now at_row at_now in
    let q = has now place within in
    let sent_same = (here.1 place o q.0 at_o q.1).1 in
    let got_same = (e.1 p c d at_c at_d).1 in
    subst (λ xs. Contains xs x) sent_same (known q.0 x q.1 (subst (λ xs. Contains xs x) (sym got_same) found))

abbrev pub StillIns : ℕ → List In → List In → Type 0
StillIns k ends new = AtEach StillIn ends new

still_ins : (k : ℕ) (ends : List In) → StillIns k ends ends
still_ins k ends = each_same StillIn still_in ends

ins_trans : (k : ℕ) (a b c : List In) → StillIns k a b → StillIns k b c → StillIns k a c
ins_trans k a b c f g = each_then StillIn StillIn StillIn in_trans a b c f g

pub all_ins_same : (xs : List (List In)) → AtEach StillIns xs xs
all_ins_same xs = each_same StillIns still_ins xs

pub all_ins_set : (start mid : List (List In)) (i : ℕ) (a b : List In) → AtEach StillIns start mid → slice_get mid i ≡ Some a → StillIns i a b → AtEach StillIns start (slice_set mid i b)
all_ins_set start mid i a b far at s = each_then StillIns StillIns StillIns ins_trans start mid (slice_set mid i b) far (each_set StillIns mid (slice_set mid i b) i a b (λ k z there apart. still_ins k z) at refl s)

-- what is known of a row as it is now is known of it as it was
pub knows_before : (place : ℕ) (ends : List In) (outs : List (List Out)) (ends' : List In) (outs' : List (List Out)) → AtEach StillIn ends ends' → AtEach StillRow outs outs'
    → KnowsRow place ends' outs' → KnowsRow place ends outs
knows_before place ends outs ends' outs' e f k p c row o l at_c at_row at_o found =
    let len_e = e.0 in
    let here_c = slice_get_within ends p c at_c in
    let d = has ends' p (omega arith) in
    let len_f = f.0 in
    let here_row = slice_get_within outs p row at_row in
    let now = has outs' p (omega arith) in
    let still = f.1 p row now.0 at_row now.1 in
    let count = still.0 in
    let here_o = slice_get_within row place o at_o in
    let q = has now.0 place (omega arith) in
    subst (λ xs. Contains xs l) (still.1 place o q.0 at_o q.1).1
    (k p d.0 now.0 q.0 l d.1 now.1 q.1 (subst (λ xs. Contains xs l) (sym (e.1 p c d.0 at_c d.1).1) found))
