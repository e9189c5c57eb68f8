-- What is filed at a moment of a run is known: each log that filed something is a client's or the cleaner's, whose small world knows all that was sent of it;
-- and a segment that a server listed flew there.
use Rattle.std.proofs.Common.{◌≡◌, ◌≤◌, ◌<◌, ◌==◌, ◌⊎◌, ◌&&◌, ℕ, nat_le, nat_lt, Bool, true, false, List, Option, None, Some, filter, length, inl, inr, refl, sym, ap, subst, ◌∙◌, arith}
use Rattle.std.proofs.lemmas.Bool.{eqb-true}
use Rattle.std.proofs.lemmas.Bool.Decides.{nat_tests}
use Rattle.group_map.specs.declared.group.Group.{Group}
use Rattle.index_tie.proofs.Runs.{good_in}
use Rattle.log_law.specs.Held.{WhatIsListedFlew}
use Rattle.log_protocol.specs.Tables.{In}
use Rattle.log_tie.specs.Setting.{Setting}
use Rattle.log_tie.specs.Shelves.{is_of_log}
use Rattle.node_slots.specs.node_index_tie.Sight.{held_in}
use Rattle.node_logs.proofs.node_log_tie.Lists.{in_filter}
use Rattle.node_logs.specs.node_log_tie.Sight.{BodySeen}
use Rattle.run_laws.specs.place_law.Reads.{FiledKnown, LogKnown}
use Rattle.run_laws.specs.reading_law.Readings.{cut_of, cuts_at}
use Rattle.segment_format.specs.declared.segment.Segment.{Segment}
use Rattle.wire_msg.specs.declared.body.Body.{Body}
use Rattle.wire_msg.specs.declared.body.Body.TheVariants as body
use Rattle.wire_msg.specs.declared.packet.Packet.{Packet}
use Rattle.wire_msg.specs.declared.storage.Listed.{Listed}
use Rattle.headline.specs.Moments.{moment}
use Rattle.run_laws.specs.world_logs.Lines.{setting}
use Rattle.run_laws.specs.world_logs.Roles.{asker_by}
use Rattle.headline.specs.Logs.{Role, log_by, renews}
use Rattle.headline.specs.Logs.Role.{OfClient, OfCleaner, OfManager}
use Rattle.run_laws.specs.world_logs.Settings.{stripe_by}
use Rattle.headline.specs.Servers.{group_at}
use Rattle.run_laws.specs.world_reads.Joint.{Joint, There, log_at}
use Rattle.run_laws.specs.world_reads.LoggedRuns.{LoggedRun}
use Rattle.xfs_base.specs.declared.fragment.FragMeta.{FragMeta}
use Rattle.xfs_base.specs.declared.segment.LogId.{LogId}
use Rattle.xfs_base.specs.declared.segment.SegName.{SegName}
use Rattle.xfs_base.proofs.Booleans.{equal_itself}
use Rattle.xfs_base.specs.Logs.{cleaners_number}

-- ---- groups

members_alike : (o : Option Group) → (cut_of o).members ≡ length (stripe_by o).members
members_alike None = refl
members_alike (Some group) = refl

parity_alike : (o : Option Group) → (cut_of o).parity ≡ (stripe_by o).parity
parity_alike None = refl
parity_alike (Some group) = refl

module _ (logged : LoggedRun) (part : ℕ) where
  open logged use {base, estate as e, lines, texts, first}

  -- the log of this number is a client's or the cleaner's
  pub record HasLog (l : ℕ) : Type 0 where
    pub role : Role
    pub there : There logged part role
    pub keeps : renews role ≡ false
    pub numbered : log_by role ≡ l

  abbrev Nobody : ℕ → Type 0
  Nobody l = (r : Role) → There logged part r → renews r ≡ false → log_by r ≡ l → ⊥

  abbrev clients : ℕ
  clients = e.script.setup.clients

  somebody : (l : ℕ) → HasLog l ⊎ Nobody l
  somebody l = by (l == cleaners_number) refl (nat_lt 0 l && nat_le l clients) refl
    where
      none : (r : Role) → (l == cleaners_number) ≡ false → (nat_lt 0 l && nat_le l clients) ≡ false → There logged part r → renews r ≡ false
          → log_by r ≡ l → ⊥
      none (OfClient c) other out there keeps fact =
          (let some = there.0 in let limit = there.1 in let same : c ≡ l = fact in
          let inside : (nat_lt 0 l && nat_le l clients) ≡ true = grind (arith, nat_tests, some, limit, same) in absurd cc)
      none OfCleaner other out there keeps fact = (let same : (l == cleaners_number) ≡ true = grind (arith, nat_tests, fact) in absurd cc)
      none (OfManager j) other out there keeps fact = absurd cc

      by : (t : Bool) → (l == cleaners_number) ≡ t → (u : Bool) → (nat_lt 0 l && nat_le l clients) ≡ u → HasLog l ⊎ Nobody l
      by true fact u at = inl (record { role = OfCleaner; there = tt; keeps = refl; numbered = sym (eqb-true l cleaners_number fact) })
      by false fact true at =
          inl (record { role = OfClient l; there = (grind (arith, nat_tests, at), grind (arith, nat_tests, at)); keeps = refl; numbered = refl })
      by false fact false at = inr (λ r there keeps same. none r fact at there keeps same)

  module _ (count : ℕ) where
    abbrev sent : List Packet
    sent = (moment e count).sent

    -- ---- one log

    module _ (r : Role) (there : There logged part r) where
      abbrev g : Setting
      g = setting base e r

      body_seen : (p : Packet) (m : Body) → In p sent → p.body ≡ m
          → BodySeen g (asker_by r ((lines r there).scene count)) (log_at logged part r there count) p.from p.to m
      body_seen p m among fact =
          subst (BodySeen g (asker_by r ((lines r there).scene count)) (log_at logged part r there count) p.from p.to) fact
          (((lines r there).stands count).facts p among)

      pub log_known : LogKnown texts.text sent (cuts_at e.world) (record { 0 = log_by r })
      log_known = record {
        setting = g;
        net = log_at logged part r there count;
        own = refl;
        moment = ((lines r there).stands count).moment;
        texts_of = texts.flown r there count;
        told = λ p m among fact of. body_seen p (body.Fragment m) among fact of;
        members = λ id. members_alike (group_at e.world id);
        parity = λ id. parity_alike (group_at e.world id);
      }

      pub of_its_log : (name : SegName) → name.log ≡ record { 0 = log_by r } → is_of_log g name ≡ true
      of_its_log name own = ap (λ (x : LogId). x.0 == log_by r) own ∙ equal_itself (log_by r)

      -- what a server listed of it flew
      pub listed_flew : WhatIsListedFlew → (p : Packet) (m : Listed) → In p sent → p.body ≡ body.Listed m → (meta : FragMeta) → In meta m.held
          → meta.name.log ≡ record { 0 = log_by r }
          → (s : Segment) × In s (log_at logged part r there count).flown × (meta.name ≡ s.name) × (meta.group ≡ s.group)
      listed_flew flew p m among fact meta held own =
          flew g (log_at logged part r there count) ((lines r there).stands count).moment
          (filter (λ (x : FragMeta). is_of_log g x.name) m.held) (body_seen p (body.Listed m) among fact) meta
          (in_filter (λ (x : FragMeta). is_of_log g x.name) meta m.held held (of_its_log meta.name own))

    -- ---- all logs

    module _ (joint : Joint logged part count) where
      pub filed_log : (l q : ℕ) → 0 < q → q ≤ joint.idx.net.filed.head l → HasLog l
      filed_log l q some limit = by (somebody l)
        where
          by : HasLog l ⊎ Nobody l → HasLog l
          by (inl has) = has
          by (inr none) = (let zero = joint.alone l none in absurd (omega arith))

      pub filed_known : FiledKnown texts.text sent (cuts_at e.world) joint.idx.net.filed
      filed_known = record {
        filed = (good_in part (held_in part texts.text) first joint.idx.net joint.index_stands.runs).filed;
        texts_of = joint.index_stands.texts_of;
        logs = λ l q some limit. (let h = filed_log l q some limit in
            subst (λ x. LogKnown texts.text sent (cuts_at e.world) (record { 0 = x })) h.numbered (log_known h.role h.there));
      }
