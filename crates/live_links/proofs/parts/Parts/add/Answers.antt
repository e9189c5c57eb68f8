use Rattle.std.proofs.Common.{◌≡◌, ◌∙◌, refl, subst, ap, [], ◌∷◌, ◌++◌, length, length-append, arith}
use Rattle.std.specs.Prelude.{List as Seq}
use Rattle.world_base.specs.declared.due.Due.{Due}
use Rattle.journals.specs.declared.moment.Moment.{Moment}
use Rattle.journals.specs.Journals.{MeetsDues, replayed, whats}
use Rattle.live_links.specs.Facts.{first_at, name_at}
use Rattle.live_links.specs.Parts.{IsPart}
use Rattle.live_links.proofs.Parted.{part_is, parts_next}
use Rattle.live_links.proofs.parts.Parts.add.Goals as goal

pub returns-clause-parts : goal.returns-clause-parts
returns-clause-parts g c =
    let step = g.N.Actor.transition in
    let first = g.N.Member.first in
    let script = g.R.RunName.script in
    let rings = g.R.RunName.outs in
    let cell = c.args.cell in
    let j = cell.journal in
    let old = c.args.self.now in
    let place : j.place ≡ length old.journals.items = let a = c.place.ensures in let b = c.len.ensures in let k = old.journals.ok.0 in let t = c.if-place-len.false in omega arith in
    let end = replayed step (first_at first script j.place) (whats j.moments) in
    let whole : IsPart step first script rings old.full j.place j.moments end cell.outs cell.ins = record {
      linked = cell.linked;
      stamped = j.is_journal.stamped;
      told = j.is_journal.told;
      ends = refl;
      met = subst (λ (ds : Seq Due). MeetsDues step (name_at script j.place) (first_at first script j.place) ds (whats j.moments)) j.dues_are j.is_journal.met;
      ended = c.requires.ended;
    }
    in
    let r = c.into_parts-moments.result in
    let e = c.into_parts-moments.ensures in
    let one =
    part_is step first script rings old.full j.place (length old.journals.items) j.moments c.of.result end r.1 cell.outs r.2 cell.ins r.3 place (c.of.ensures ∙ e.moments) e.node e.outs e.ins whole
    in
    parts_next step first script rings old.full old.journals.items old.nodes old.outs.items old.ins.items c.of.result r.1 r.2 r.3
    c.push.new.self.items c.push-2.new.self c.push-3.new.self.items c.push-4.new.self.items c.requires.parts one c.in_ok-push.ensures.items c.in_ok-push-2.ensures.ok
    c.in_ok-push-3.ensures.items c.in_ok-push-4.ensures.items

pub returns-clause-count : goal.returns-clause-count
returns-clause-count g c =
    ap (λ (js : Seq (Seq Moment)). length js) c.in_ok-push.ensures.items ∙ length-append c.args.self.now.journals.items (c.of.result ∷ [])

pub returns-clause-place : goal.returns-clause-place
returns-clause-place g c =
    let a = c.place.ensures in
    let b = c.len.ensures in
    let k = c.args.self.now.journals.ok.0 in
    let t = c.if-place-len.false in
    omega arith

pub returns-clause-journal : goal.returns-clause-journal
returns-clause-journal g c =
    c.in_ok-push.ensures.items ∙ ap (λ (j : Seq Moment). c.args.self.now.journals.items ++ j ∷ []) (c.of.ensures ∙ c.into_parts-moments.ensures.moments)
