-- What a reopening read back is what was filed, and what it adopts.
use Rattle.std.proofs.Common.{⊎_elim, ◌≡◌, ◌≤◌, ◌<◌, ◌+◌, ◌-◌, ℕ, suc, List, length, sym, arith}
use Rattle.client_log.specs.LogState.{LogState}
use Rattle.headline.specs.Filed.{Filed, Texts}
use Rattle.log_law.specs.Net.{Net}
use Rattle.log_law.specs.ReadBack.{ReadsDown}
use Rattle.log_tie.specs.Setting.{Setting}
use Rattle.node_slots.specs.owner_index_tie.Owners.{ReadBack}
use Rattle.segment_format.specs.declared.segment.Segment.{Segment}
use Rattle.token_protocol.specs.Basics.{In as Among}
use Rattle.run_laws.specs.reopening_law.Below.{Below}
use Rattle.run_laws.specs.reopening_law.Reopens.{AreTextsThere, FiledOf, ReopeningsReadBack, Reopens}
use Rattle.run_laws.proofs.reopening_law.Chains.{all_so, among_in, numbers, short}
use Rattle.run_laws.proofs.reopening_law.Reopened as reopened
use Rattle.run_laws.proofs.reopening_law.Steps.{is_reached}

module _ (k : Below) (g : Setting) (n o : Net) (chain : List Segment) (s r : LogState) (e : Reopens g n o chain s r) (texts : Texts) (l : ℕ) (f : Filed)
    (low : ℕ)
    (there : AreTextsThere texts n) (filed : FiledOf l f n) (reaches : ReadsDown n low (record { segments = chain; end = s.end })) where
  -- the least horizon is no further than one beyond what is filed
  horizon : low ≤ suc (f.head l)
  horizon = ⊎_elim (λ few. (let p = reaches.past in omega arith)) (λ x. (let p = reaches.past in let a = x.2 in let b = (filed.all x.0 x.1).1 in omega arith))
      (is_reached g n e.moment)

  abbrev first : ℕ
  first = suc s.end.seq - length chain

  to : first + length chain ≡ suc s.end.seq
  to = (let a = short s.end.seq chain reaches.numbers in omega arith)

  its_place : (t : Segment) → Among t chain → low ≤ t.name.seq → t.name.seq ≤ f.head l → t ≡ f.segment l t.name.seq
  its_place t fact from upto =
      let in_chain = among_in chain t fact in
      let some : 0 < t.name.seq = (let a = reaches.some in omega arith) in
      let seq = filed.seq t.name.seq some upto in
      reopened.one k g n o chain s r e t (f.segment l t.name.seq) (reopened.chain_flew k g n o chain s r e t in_chain) (filed.flew t.name.seq some upto)
      (reopened.chain_filed k g n o chain s r e t in_chain)
      (reopened.was_filed k g n o chain s r e (f.segment l t.name.seq).name (filed.filed t.name.seq some upto)) (sym seq)

  pub read_back : ReadBack texts l f low s.end.seq chain
  read_back = record {
    first = first;
    numbers = numbers s.end.seq first chain reaches.numbers to;
    from = (let a = reaches.down in omega arith);
    to = to;
    some = reaches.some;
    horizon = horizon;
    reaches = reopened.head_before k g n o chain s r e l f filed;
    filed = its_place;
    named = all_so chain (λ t fact. sym (there.texts_are t (reopened.chain_flew k g n o chain s r e t fact)));
    fits = all_so chain (λ t fact. there.fit t (reopened.chain_flew k g n o chain s r e t fact));
  }

pub reopenings_read_back : Below → ReopeningsReadBack
reopenings_read_back k g n o chain s r e texts l f low there filed reaches = read_back k g n o chain s r e texts l f low there filed reaches
