use Rattle.std.proofs.Common.{◌≡◌, ◌∙◌, refl, ap, sym, subst, ◌+◌, ◌++◌, ◌∷◌, [], ◌||◌, cond, ℕ}
use Rattle.std.specs.Prelude.{List as Seq}
use Rattle.version_model.specs.declared.act.Act.{Act}
use Rattle.wire_msg.specs.NodeStep.{NodeStep}
use Rattle.xfs_base.specs.declared.node.NodeId.{NodeId}
use Rattle.world_base.specs.declared.due.Due.{Due}
use Rattle.journals.specs.declared.moment.Moment.{Moment}
use Rattle.journals.specs.Answers.{has_answer, answers_advance}
use Rattle.journals.specs.Journals.{MayBegin, whats}
use Rattle.live_links.specs.Acts.{ticks}
use Rattle.live_links.specs.Answered.{answers_by}
use Rattle.live_links.specs.Ends.{letters_of}
use Rattle.live_links.specs.Facts.{first_at, name_at}
use Rattle.live_links.proofs.Answering.{answers_next, less_than, waits_next}
use Rattle.live_links.proofs.Turns.{journal_next, turned_next, turned_none}
use Rattle.live_links.proofs.journal.Journal.turn.Goals as goal

pub invariant_of-journal : goal.invariant_of-journal
invariant_of-journal g c =
    let j = c.args.self in
    let script = g.R.RunName.script in
    let node = name_at script j.place in
    let first = first_at g.N.Member.first script j.place in
    let acts = c.in_ok-packets.acts in
    let more = c.note_all.new.self in
    let m : Moment = record {
      clock = c.in-Some.clock;
      what = c.args.what;
      from = c.args.from;
      number = c.args.number;
      packets = c.in_ok-shared.shared;
      acts = acts;
    }
    in
    let known : (k : ℕ) → answers_advance more k ≡ (answers_advance j.answers k || has_answer node k acts) = λ k.
    c.in_ok-note_all.ensures.noted k ∙ ap (λ (done : Seq Act). answers_advance j.answers k || has_answer j.name k done) c.as_slice.ensures
    ∙ ap (λ (by : NodeId). answers_advance j.answers k || has_answer by k acts) j.name_is
    in
    record {
      name_is = j.name_is;
      dues_are = j.dues_are;
      is_journal =
          journal_next g.N.Actor.transition node first j.dues j.moments j.node.value j.clock j.begun j.answers j.sent j.is_journal m
          (record { node = c.step_of.new.node; packets = c.in_ok-packets.packets; acts = acts }) more c.push.new.self c.in_ok-begun.begun c.in_ok-sent.sent
          (sym c.in-Some.ensures) (λ e. subst (λ (ds : Seq Due). MayBegin g.N.Actor.transition node first ds (whats j.moments)) (sym j.dues_are) (c.requires e))
          (c.in_ok-packets.ensures ∙ ap (λ n. g.N.Actor.transition n c.args.what) c.deref_mut.ensures.value) c.in_ok-shared.ensures refl known
          c.in_ok-note_all.ensures.settled c.in_ok-push.ensures.ok
          (c.in_ok-begun.ensures ∙ ap (λ n. j.begun + n) c.begins_of.ensures)
          (c.in_ok-sent.ensures ∙ ap (λ n. j.sent + n) c.len-2.ensures);
      answered_are =
          answers_next g.N.Actor.transition node first j.name j.moments c.push.new.self m j.node.value acts j.answered c.keep_answers.new.kept j.name_is j.is_journal.replay
          (ap (λ (s : NodeStep g.row.N.Denot). s.acts) (c.in_ok-packets.ensures ∙ ap (λ n. g.N.Actor.transition n c.args.what) c.deref_mut.ensures.value))
          c.in_ok-push.ensures.ok j.answered_are (c.in_ok-keep_answers.ensures ∙ ap (λ (done : Seq Act). j.answered ++ answers_by j.name done) c.as_slice-2.ensures);
      waited_is =
          waits_next g.N.Actor.transition node first j.name j.moments c.push.new.self m j.node.value acts j.answered c.keep_answers.new.kept j.waited c.in_ok-waited.waited j.name_is
          j.is_journal.replay (ap (λ (s : NodeStep g.row.N.Denot). s.acts) (c.in_ok-packets.ensures ∙ ap (λ n. g.N.Actor.transition n c.args.what) c.deref_mut.ensures.value))
          c.in_ok-push.ensures.ok j.waited_is (c.in_ok-keep_answers.ensures ∙ ap (λ (done : Seq Act). j.answered ++ answers_by j.name done) c.as_slice-2.ensures)
          (c.in_ok-waited.ensures ∙ ap (λ b. cond b 0 (j.waited + ticks (c.args.what ∷ []))) (less_than c.len-before.result c.len.result j.answered c.keep_answers.new.kept c.len-before.ensures c.len.ensures));
    }

pub returns-clause-exact : goal.returns-clause-exact
returns-clause-exact g c =
    let j = c.args.self in
    let script = g.R.RunName.script in
    let node = name_at script j.place in
    let first = first_at g.N.Member.first script j.place in
    let acts = c.in_ok-packets.acts in
    let m : Moment = record {
      clock = c.in-Some.clock;
      what = c.args.what;
      from = c.args.from;
      number = c.args.number;
      packets = c.in_ok-shared.shared;
      acts = acts;
    }
    in
    turned_next g.N.Actor.transition node first j.dues j.moments j.node.value j.clock j.begun j.answers j.sent j.is_journal j.place m
    (record { node = c.step_of.new.node; packets = c.in_ok-packets.packets; acts = acts }) c.in_ok-letters.letters c.push.new.self (sym c.in-Some.ensures)
    (c.in_ok-packets.ensures ∙ ap (λ n. g.N.Actor.transition n c.args.what) c.deref_mut.ensures.value) c.in_ok-shared.ensures refl
    (c.in_ok-letters.ensures ∙ ap (letters_of j.place j.sent) c.as_slice-3.ensures) c.in_ok-push.ensures.ok

pub returns-in-None-clause-exact : goal.returns-in-None-clause-exact
returns-in-None-clause-exact g c =
    let j = c.args.self in
    let script = g.R.RunName.script in
    turned_none g.N.Actor.transition (name_at script j.place) (first_at g.N.Member.first script j.place) j.dues j.moments j.node.value j.clock j.begun j.answers j.sent j.is_journal j.place
    c.args.what c.args.from c.args.number c.new.result (sym c.in-None.ensures) c.new.ensures
