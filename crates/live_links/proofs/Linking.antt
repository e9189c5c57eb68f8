-- What a turn and a packet that is taken leave of the ends.
use Rattle.std.proofs.Common.{◌≡◌, refl, sym, ap, subst, ◌∙◌, ℕ, List, [], length, inl, inr, arith}
use Rattle.std.proofs.lemmas.Option.{slice_get_within}
use Rattle.std.proofs.Math.Logic.{∥∥₁_map}
use Rattle.rtrb.specs.Ring.{sent}
use Rattle.wire_msg.specs.declared.packet.Do.{Do}
use Rattle.wire_msg.specs.declared.packet.Do.TheVariants.{Deliver}
use Rattle.wire_msg.specs.declared.packet.Packet.{Packet}
use Rattle.wire_msg.specs.NodeStep.{NodeStep}
use Rattle.world_base.specs.declared.cluster.Cluster.{Cluster}
use Rattle.journals.specs.declared.moment.Moment.{Moment}
use Rattle.journals.proofs.Gets.{has, none_in}
use Rattle.live_links.specs.declared.letter.Letter.{Letter}
use Rattle.live_links.specs.Ends.{AtEach, In, IsInsOf, IsOutsOf, IsUnused, Out, Received, Sends}
use Rattle.live_links.specs.Facts.{IsLinked}
use Rattle.live_links.proofs.Each.{out_then, pair_after}
use Rattle.live_links.proofs.Popping.{Grows}
use Rattle.live_links.proofs.Turns.{Adds}

received_still : (ins new : List In) (l : Letter) → AtEach Grows ins new → Received ins l → Received new l
received_still ins new l t r =
    let within = slice_get_within ins r.0 r.1 r.2 in
    let count = t.0 in
    let d = has new r.0 (omega arith) in
    (r.0, d.0, d.1, (t.1 r.0 r.1 d.0 r.2 d.1).1 l r.3)

ins_still : (rings : List (List Out)) (place : ℕ) (ins new : List In) → AtEach Grows ins new → IsInsOf rings place ins → IsInsOf rings place new
ins_still rings place ins new t i = record {
  count = t.0 ∙ i.count;
  named = λ p d got.
      let within = slice_get_within new p d got in
      let count = t.0 in
      let c = has ins p (omega arith) in
      let made = i.named p c.0 c.1 in
      (made.0, made.1, pair_after made.0 c.0 d made.2 (t.1 p c.0 d c.1 got).0);
}

outs_still : (c : Cluster) (rings : List (List Out)) (place : ℕ) (outs new : List Out) (all : List Letter) → Sends c outs all new → IsOutsOf rings place outs → IsOutsOf rings place new
outs_still c rings place outs new all s i = record {
  count = s.0 ∙ i.count;
  named = λ q p got.
      let within = slice_get_within new q p got in
      let count = s.0 in
      let o = has outs q (omega arith) in
      let made = i.named q o.0 o.1 in
      (made.0, made.1, out_then made.0 o.0 p made.2 (s.1 q o.0 p o.1 got).same);
}

module _ {N : Type 0} (step : N → Do → NodeStep N) (first : N) (cluster : Cluster) (rings : List (List Out)) (place : ℕ) where
  pub linked_none : (outs : List Out) (ins : List In) → IsOutsOf rings place outs → IsInsOf rings place ins → IsUnused outs
      → IsLinked step first cluster rings place [] outs ins
  linked_none outs ins o i unused = record {
    outs_are = o;
    ins_are = i;
    pushed = λ q end l got found. absurd (none_in (sent end) l (ap length (unused q end got)) found);
    came = λ m x found what. absurd (none_in [] m refl found);
  }

  more : (what : Do) (from number : ℕ) (ms new : List Moment) (letters : List Letter) (outs outs' : List Out) (ins : List In)
      → IsLinked step first cluster rings place ms outs ins → Adds step first place what from number ms new letters → Sends cluster outs letters outs'
      → ((x : Packet) → what ≡ Deliver x → Received ins (record { from = from; number = number; packet = x }))
      → IsLinked step first cluster rings place new outs' ins
  more what from number ms new letters outs outs' ins k t s r = record {
    outs_are = outs_still cluster rings place outs outs' letters s k.outs_are;
    ins_are = k.ins_are;
    pushed = λ q p l got found.
        let within = slice_get_within outs' q p got in
        let count = s.0 in
        let o = has outs q (omega arith) in
        elim ((s.1 q o.0 p o.1 got).only l found) [
          | inl before ↦ let b = k.pushed q o.0 l o.1 before in (b.0, (b.1.0, t.kept l.number l.packet b.1.1))
          | inr now ↦ (now.0, t.sends l now.1)
        ];
    came = λ m x found is. elim (t.came m found) [
      | inl before ↦ k.came m x before is
      | inr now ↦
          subst (λ f. Received ins (record { from = f; number = m.number; packet = x })) (sym now.1)
          (subst (λ n. Received ins (record { from = from; number = n; packet = x })) (sym now.2) (r x (sym now.0 ∙ is)))
    ];
  }

  took : (ms : List Moment) (outs : List Out) (ins new : List In) → IsLinked step first cluster rings place ms outs ins → AtEach Grows ins new
      → IsLinked step first cluster rings place ms outs new
  took ms outs ins new k t = record {
    outs_are = k.outs_are;
    ins_are = ins_still rings place ins new t k.ins_are;
    pushed = k.pushed;
    came = λ m x found is. received_still ins new (record { from = m.from; number = m.number; packet = x }) t (k.came m x found is);
  }

  pub linked_more : (what : Do) (from number : ℕ) (ms new : List Moment) (letters : List Letter) (outs outs' : List Out) (ins : List In)
      → ∥ IsLinked step first cluster rings place ms outs ins ∥₁ → Adds step first place what from number ms new letters → Sends cluster outs letters outs'
      → ((x : Packet) → what ≡ Deliver x → Received ins (record { from = from; number = number; packet = x }))
      → ∥ IsLinked step first cluster rings place new outs' ins ∥₁
  linked_more what from number ms new letters outs outs' ins k t s r = ∥∥₁_map k (λ known. more what from number ms new letters outs outs' ins known t s r)

  pub linked_took : (ms : List Moment) (outs : List Out) (ins new : List In) → ∥ IsLinked step first cluster rings place ms outs ins ∥₁ → AtEach Grows ins new
      → ∥ IsLinked step first cluster rings place ms outs new ∥₁
  linked_took ms outs ins new k t = ∥∥₁_map k (λ known. took ms outs ins new known t)
