-- What a takeover reads from a source down, each segment the one that the one above it names, it refers to with the group of its text: where its sources flew
-- in logs of the run.
use Rattle.std.proofs.Common.{◌≡◌, ◌==◌, ℕ, ◌-◌, true, false, cond, List, [], ◌∷◌, length, Option, None, Some, inl, inr, refl, sym, ap, subst, ◌∙◌}
use Rattle.std.specs.Prelude.{Contains}
use Rattle.std.specs.List.{AllByRecursion}
use Rattle.group_map.specs.declared.group.Group.{Group}
use Rattle.log_law.specs.Groups.{PriorsNameGroups}
use Rattle.log_law.specs.Laws.{OneNameOneText}
use Rattle.log_law.specs.Net.Packet.{FragmentSent}
use Rattle.log_law.specs.Places.{APlaceNamesOneContent}
use Rattle.log_protocol.specs.Tables.{In}
use Rattle.log_tie.specs.Shelves.{is_of_log}
use Rattle.node_logs.specs.node_log_tie.Sight.{BodySeen}
use Rattle.run_laws.proofs.place_law.Joined.{HasFragment, has_fragment, joined}
use Rattle.run_laws.proofs.place_law.Texts.{any_was_sent}
use Rattle.run_laws.specs.place_law.Reads.{LogKnown, NamesItsGroup}
use Rattle.run_laws.specs.reading_law.Readings.{cut_of, cuts_at}
use Rattle.node_tellings.specs.reading_tie.Arrivals.{answered_in, cut_by}
use Rattle.node_tellings.specs.reading_tie.Came.{AnswerCame, Came, IsOfName, ReadsJoined, Striped}
use Rattle.node_tellings.specs.reading_tie.TakeoverReads.{LeadsDown, ReadsDown, to_any}
use Rattle.segment_format.specs.declared.segment.Segment.{Segment}
use Rattle.takeover.specs.declared.source.Source.{Source}
use Rattle.takeover.specs.Sources.{back_from, goes_back, prior_of}
use Rattle.wire_msg.specs.declared.body.Body.TheVariants as body
use Rattle.wire_msg.specs.declared.packet.Packet.{Packet}
use Rattle.wire_msg.specs.declared.storage.Found.{Found}
use Rattle.headline.specs.Moments.{moment}
use Rattle.run_laws.specs.world_logs.Lines.{setting}
use Rattle.run_laws.specs.world_logs.Roles.{asker_by}
use Rattle.headline.specs.Logs.{Role}
use Rattle.run_laws.specs.world_logs.Settings.{stripe_by}
use Rattle.headline.specs.Servers.{group_at}
use Rattle.run_laws.specs.world_reads.Joint.{There, log_at}
use Rattle.run_laws.specs.world_reads.References.{Flew, OfSomeLog}
use Rattle.run_laws.specs.world_reads.LoggedRuns.{LoggedRun}
use Rattle.xfs_base.specs.declared.fragment.Fragment.{Fragment}
use Rattle.xfs_base.specs.declared.node.NodeId.{NodeId}
use Rattle.xfs_base.specs.declared.segment.LogId.{LogId}
use Rattle.xfs_base.specs.declared.segment.SegName.{SegName}
use Rattle.xfs_base.specs.declared.segment.SegRef.{SegRef}
use Rattle.xfs_base.proofs.Booleans.{equal_itself}

one_of : {X : Type 0} (P : X → Type 0) (xs : List X) (x : X) → AllByRecursion P xs → In x xs → P x
one_of P [] x all fact = absurd fact
one_of P (y ∷ xs) x all (inl fact) = subst P (sym fact) all.0
one_of P (y ∷ xs) x all (inr later) = one_of P xs x all.1 later

-- where a segment leads: to the one before it
leads_to : (at : Source) (s : Segment) (source : Source) → back_from at s ≡ Some source → source.seg ≡ prior_of s
leads_to at s source fact =
    elim (goes_back at s) as (λ t. cond t (Some (record { seg = prior_of s; low = at.low })) None ≡ Some source → source.seg ≡ prior_of s) [
      | true ↦ λ h. ap (λ (x : Source). x.seg) (sym (one_source (record { seg = prior_of s; low = at.low }) source h))
      | false ↦ λ h. absurd (cc)
    ] fact
  where
    one_source : (a b : Source) → Some a ≡ Some b → a ≡ b
    one_source a b h = cc

pub members_alike : (o : Option Group) → (cut_of o).members ≡ length (stripe_by o).members
members_alike None = refl
members_alike (Some group) = refl

pub parity_alike : (o : Option Group) → (cut_of o).parity ≡ (stripe_by o).parity
parity_alike None = refl
parity_alike (Some group) = refl

module _ (logged : LoggedRun) (part count : ℕ) (to : NodeId) where
  open logged use {base, estate as e, lines, texts}

  abbrev sent : List Packet
  sent = (moment e count).sent

  -- what came in answer to some question of the reader's
  abbrev pub told : Came
  told = to_any (answered_in sent to)

  abbrev pub striped : Striped
  striped = cut_by (cuts_at e.world)

  -- The segment is of a log of the run, and whatever flew there under its name is over the group with which it is referred to.
  pub record Refers (seg : SegRef) : Type 0 where
    pub of : OfSomeLog logged part count seg.name
    pub grouped : (t : Segment) → In t (log_at logged part of.role of.there count).flown → t.name ≡ seg.name → t.group ≡ seg.group

  -- so it is of what flew, with its group
  pub flew_refers : (seg : SegRef) → Flew logged part count seg → Refers seg
  flew_refers seg f = record {
    of = f.of;
    grouped = λ t among named. (let same : t ≡ f.segment =
        sym (texts.flown f.of.role f.of.there count t among)
        ∙ (ap texts.text (named ∙ f.named) ∙ texts.flown f.of.role f.of.there count f.segment f.among) in
        ap (λ (s : Segment). s.group) same ∙ sym f.grouped);
  }

  -- a fragment that was sent, as the log of this owner has it
  pub its_fragment : (r : Role) (there : There logged part r) (p : Packet) (m : Found) → In p sent → p.body ≡ body.Fragment m
      → is_of_log (setting base e r) m.fragment.meta.name ≡ true
      → In (FragmentSent m.fragment) (log_at logged part r there count).sent
  its_fragment r there p m among fact =
      subst (BodySeen (setting base e r) (asker_by r ((lines r there).scene count)) (log_at logged part r there count) p.from p.to) fact
      (((lines r there).stands count).facts p among)

  -- its log is known
  abbrev pub known : (name : SegName) → OfSomeLog logged part count name → LogKnown texts.text sent (cuts_at e.world) name.log
  known name o = record {
    setting = setting base e o.role;
    net = log_at logged part o.role o.there count;
    own = sym o.own;
    moment = ((lines o.role o.there).stands count).moment;
    texts_of = texts.flown o.role o.there count;
    told = its_fragment o.role o.there;
    members = λ id. members_alike (group_at e.world id);
    parity = λ id. parity_alike (group_at e.world id);
  }

  module _ (one : OneNameOneText) (place : APlaceNamesOneContent) (seg : SegRef) (r : Refers seg) (s : Segment) (reads : ReadsJoined told striped seg s) where
    abbrev l : LogKnown texts.text sent (cuts_at e.world) seg.name.log
    l = known seg.name r.of

    -- a fragment of it came
    has : HasFragment reads.round.answers
    has = has_fragment reads.round reads.text reads.of.is_round reads.joins

    answer : AnswerCame told reads.ask seg.name has.answer
    answer = one_of (AnswerCame told reads.ask seg.name) reads.round.answers has.answer reads.of.answers has.among

    of_name : has.fragment.meta.name ≡ seg.name
    of_name = subst (IsOfName seg.name) has.holds answer.of_name

    of_log : is_of_log l.setting has.fragment.meta.name ≡ true
    of_log = subst (λ (n : SegName). (n.log.0 == l.setting.log.0) ≡ true) (sym of_name)
        (subst (λ (x : LogId). (seg.name.log.0 == x.0) ≡ true) (sym l.own) (equal_itself seg.name.log.0))

    was_sent : In (FragmentSent has.fragment) l.net.sent
    was_sent = any_was_sent texts.text sent to (cuts_at e.world) seg l reads.ask has.answer.server has.fragment
        (subst (told reads.ask has.answer.server) has.holds answer.came_so) of_log

    -- so the segment of its name flew, over the group with which it is referred to
    pub names_its_group : NamesItsGroup texts.text seg
    names_its_group =
        let t = (one l.setting l.net l.moment).told has.fragment was_sent in
        let named : t.0.name ≡ seg.name = sym (ap (λ (f : Fragment). f.meta.name) t.2) ∙ of_name in
        sym (r.grouped t.0 t.1 named) ∙ ap (λ (z : Segment). z.group) (sym (l.texts_of t.0 t.1) ∙ ap texts.text named)

    -- it is what is read
    pub flew_read : In s l.net.flown
    flew_read = (joined one place texts.text sent (cuts_at e.world) told seg l names_its_group
        (any_was_sent texts.text sent to (cuts_at e.world) seg l) s reads).among

    -- and the one before it is referred to as well
    pub refers_below : PriorsNameGroups → Refers (prior_of s)
    refers_below priors = record {
      of = record { role = r.of.role; there = r.of.there; own = ap (λ (n : SegName). n.log) reads.named ∙ r.of.own };
      grouped = λ t among named. priors l.setting l.net l.moment s t flew_read among
          (named ∙ ap (λ (x : LogId). record { log = x; seq = s.name.seq - 1; pass = s.prior.pass }) (ap (λ (n : SegName). n.log) reads.named ∙ r.of.own));
    }

  module _ (one : OneNameOneText) (place : APlaceNamesOneContent) (priors : PriorsNameGroups) where
    down : (from : Source) (segments : List Segment) (source : Source) → Refers from.seg → ReadsDown (answered_in sent to) striped from segments source
        → Refers source.seg
    down from [] source r fact = subst (λ (x : Source). Refers x.seg) (sym fact) r
    down from (s ∷ above) source r (at, before, reads, back) =
        subst Refers (sym (leads_to at s source back)) (refers_below one place at.seg (down from above at r before) s reads priors)

    -- where the sources of a takeover flew, what it reads at present is referred to so
    pub refers_down : (sources : List Source) → ((source : Source) → Contains sources source → Flew logged part count source.seg)
        → (source : Source) → LeadsDown (answered_in sent to) striped sources source → Refers source.seg
    refers_down sources flew source d = down d.first d.segments source (flew_refers d.first.seg (flew d.first d.among)) d.down
