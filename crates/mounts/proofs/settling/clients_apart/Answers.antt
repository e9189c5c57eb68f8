use Rattle.std.proofs.Common.{◌≡◌, ◌∙◌, ap, subst, sym, length, length-append, ◌+◌, ◌++◌, ◌∷◌, [], arith}
use Rattle.std.specs.Prelude.{List as Seq}
use Rattle.std.proofs.lemmas.List.Elements.{All-head, All-rest, All-same}
use Rattle.std.specs.Vec.Iter.{into_iter_items}
use Rattle.live_links.specs.Ending.{IsEnded}
use Rattle.live_links.proofs.Parted.{no_parts}
use Rattle.mounts.specs.declared.reply.Reply.{Reply}
use Rattle.mounts.proofs.Said.{said_more, said_none}
use Rattle.mounts.proofs.settling.clients_apart.Goals as goal

pub loop-client-init : goal.loop-client-init
loop-client-init g c =
    let e = c.none-parts.ensures.none in
    let n = c.none-told.ensures in
    let all : into_iter_items c.into_iter-client-iterator.result ≡ c.args.clients.items = c.into_iter-client-iterator.ensures.into_iter_gives.0 in
    record {
      parts = rw (e.0, e.1, e.2, e.3) (no_parts g.N.Actor.transition g.N.Member.first g.R.RunName.script g.R.RunName.outs _);
      full = c.none-parts.ensures.full;
      ended = All-same (λ d. IsEnded g.N.Actor.transition g.N.Member.first g.R.RunName.script c.args.full d.cell.journal.place d.cell.journal.moments) _ c.args.clients.items all c.requires;
      count = let none = ap length e.0 in let same = ap length all in omega arith;
      level = ap length n.1 ∙ sym (ap length e.0);
      said = said_none g.N.Actor.transition g.N.Member.first g.R.RunName.script c.none-parts.result.journals.items c.none-told.result.calls c.none-told.result.replies n.0 n.1;
    }

pub loop-client-preserved : goal.loop-client-preserved
loop-client-preserved g c =
    let step = c.in-Some.ensures.steps.0 in
    let i = c.loop-client.invariant in
    let added = c.in_ok-add.ensures in
    let told = c.in_ok-add-2.ensures in
    let settled = c.in_ok-cell.ensures in
    let client = c.in-Some.client in
    record {
      parts = added.parts;
      full = c.add.ensures.full ∙ i.full;
      ended =
          All-rest (λ d. IsEnded g.N.Actor.transition g.N.Member.first g.R.RunName.script c.args.full d.cell.journal.place d.cell.journal.moments) c.in-Some.client (into_iter_items c.next.new.self) _ step
          i.ended;
      count = let one = added.count in let less = ap length step in let was = i.count in omega arith;
      level = ap (λ (rs : Seq (Seq Reply)). length rs) told.1 ∙ length-append c.loop-client.told.replies (c.in_ok-cell.replies ∷ []) ∙ ap (λ n. n + 1) i.level ∙ sym added.count;
      said =
          said_more g.N.Actor.transition g.N.Member.first g.R.RunName.script c.loop-client.parts.journals.items c.add.new.self.journals.items c.loop-client.told.calls c.add-in-loop-client.new.self.calls
          c.loop-client.told.replies c.add-in-loop-client.new.self.replies client.cell.journal.moments c.in_ok-cell.calls c.in_ok-cell.replies client.cell.journal.place i.said i.level
          (ap (λ k. k.journal.place) (sym settled.cell) ∙ added.place) (added.journal ∙ ap (λ k. c.loop-client.parts.journals.items ++ k.journal.moments ∷ []) settled.cell) told.0 told.1
          settled.calls settled.replies;
    }

pub add-requires-clause-ended : goal.add-requires-clause-ended
add-requires-clause-ended g c =
    subst (λ b. IsEnded g.N.Actor.transition g.N.Member.first g.R.RunName.script b c.in_ok-cell.cell.journal.place c.in_ok-cell.cell.journal.moments) (sym c.loop-client.invariant.full)
    (subst (λ k. IsEnded g.N.Actor.transition g.N.Member.first g.R.RunName.script c.args.full k.journal.place k.journal.moments) (sym c.in_ok-cell.ensures.cell)
    (All-head (λ d. IsEnded g.N.Actor.transition g.N.Member.first g.R.RunName.script c.args.full d.cell.journal.place d.cell.journal.moments) c.in-Some.client (into_iter_items c.next.new.self)
    (All-same (λ d. IsEnded g.N.Actor.transition g.N.Member.first g.R.RunName.script c.args.full d.cell.journal.place d.cell.journal.moments) _ _ (sym c.in-Some.ensures.steps.0) c.loop-client.invariant.ended)))
