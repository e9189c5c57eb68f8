-- What packets tell of where blocks lie goes on to be so, as the small world goes on.
use Rattle.std.proofs.Common.{ℕ, suc, ◌≤◌, ◌<◌, List, sym, ap, ◌∙◌, arith}
use Rattle.index_tie.proofs.Growth.{deltas_stay}
use Rattle.index_tie.proofs.Takeovers.{by_log, of_log_out}
use Rattle.index_tie.specs.Net.{Net}
use Rattle.index_tie.specs.Takeovers.{IsEnd}
use Rattle.headline.specs.Indexes.{of_log}
use Rattle.log_protocol.specs.Tables as tables
use Rattle.node_slots.specs.node_index_tie.Sight.{Questions, CheckKnown, DeadKnown, DeltasKnown, EndKnown, ManagerSends, ReportKnown}
use Rattle.segment_format.specs.declared.segment.Segment.{Segment}
use Rattle.wire_msg.specs.declared.body.Body.{Body}
use Rattle.wire_msg.specs.declared.body.Body.TheVariants as body
use Rattle.wire_msg.specs.declared.cleaning.Check.{Check}
use Rattle.wire_msg.specs.declared.cleaning.Dead.{Dead}
use Rattle.wire_msg.specs.declared.deltas.Deltas.{Deltas}
pub use Rattle.run_laws.specs.world_index.Growth.{Grown}
use Rattle.run_laws.specs.world_index.Standing.{AllKept, CleanerTells, NewsKept, OwnerTells, RegistryTells, SentBy}
use Rattle.xfs_base.specs.declared.news.SlotNews.{SlotNews}
use Rattle.xfs_base.specs.declared.node.NodeId.{NodeId}
use Rattle.xfs_base.specs.declared.node.NodeId.TheVariants.{Client, Manager, Server, Cleaner, Registry}
use Rattle.xfs_base.specs.declared.segment.End.{End}
use Rattle.xfs_base.specs.declared.segment.SegName.{SegName}
use Rattle.xfs_base.specs.Limits.{block_logs}
use Rattle.xfs_base.specs.Logs.{cleaners_number}

up_to : (a b c : ℕ) → a ≤ b → b ≤ c → a ≤ c
up_to a b c h g = omega arith

-- a list by log has nothing of other logs
of_some : (xs : List ℕ) (l : ℕ) → 0 < of_log xs l → (0 < l) × (l ≤ block_logs)
of_some xs = by_log (λ l. 0 < of_log xs l → (0 < l) × (l ≤ block_logs)) (λ l some limit _. (some, limit))
    (λ l out some. let none = of_log_out xs l out in absurd (omega arith))

module _ (part : ℕ) (n m : Net) (g : Grown n m) where
  deltas_known_stay : (l : ℕ) (d : Deltas) → DeltasKnown part n l d → DeltasKnown part m l d
  deltas_known_stay l d k = record {
    tells = λ b inside. deltas_stay b n.filed m.filed l d.first d.upto d.rows g.filed (k.tells b inside);
    fit = k.fit;
    short = k.short;
  }

  -- ---- ends

  module _ (epoch l : ℕ) (end : End) (k : EndKnown part n epoch l end) where
    abbrev low : ℕ
    low = of_log (n.horizon epoch) l

    abbrev later : ℕ
    later = of_log (m.horizon epoch) l

    old : 0 < later → (0 < low) × (low ≤ later)
    old some = let at = of_some (m.horizon epoch) l some in (g.from_one epoch l at.0 at.1, g.rises epoch l at.0 at.1)

    end_is : 0 < later → later ≤ end.seq → IsEnd m.filed l end
    end_is some upto =
        let was = old some in
        let a = was.1 in
        let b = was.0 in
        let e = k.filed was.0 (omega arith) in
        let limit = e.filed in
        record {
          filed = up_to end.seq (n.filed.head l) (m.filed.head l) e.filed (g.filed.head l);
          named = e.named ∙ sym (ap (λ (s : Segment). s.name.pass) (g.filed.segment l end.seq (omega arith) e.filed));
        }

    end_stays : EndKnown part m epoch l end
    end_stays = record {
      filed = end_is;
      linked = λ some q least less.
          let was = old some in
          let a = was.1 in
          let b = was.0 in
          let e = k.filed was.0 (omega arith) in
          let limit = e.filed in
          ap (λ (s : Segment). s.prior.pass) (g.filed.segment l (suc q) (omega arith) (omega arith)) ∙ k.linked was.0 q (omega arith) less ∙ sym
          (ap (λ (s : Segment). s.name.pass) (g.filed.segment l q (omega arith) (omega arith)));
      short = k.short;
    }

  report_stays : (epoch : ℕ) (from : NodeId) (end : End) → ReportKnown part n epoch from end → ReportKnown part m epoch from end
  report_stays epoch (Client c) end k = end_stays epoch c end k
  report_stays epoch (Manager c) end k = tt
  report_stays epoch (Server c) end k = tt
  report_stays epoch Cleaner end k = (end_stays epoch cleaners_number end k.0, g.sent _ k.1)
  report_stays epoch Registry end k = tt

  owner_stays : (l : ℕ) (from : NodeId) (b : Body) → OwnerTells part n l from b → OwnerTells part m l from b
  owner_stays l from (body.Deltas d) h = λ inside. deltas_known_stay l d (h inside)
  owner_stays l from (body.Report r) h = (
    λ inside. report_stays r.epoch from r.end (h.0 inside),
    up_to r.end.seq (n.filed.head l) (m.filed.head l) h.1 (g.filed.head l),
  )
  owner_stays l from (body.Want w) h = up_to w.end (n.filed.head l) (m.filed.head l) h (g.filed.head l)
  owner_stays l from (body.Gave w) h = up_to w.end (n.filed.head l) (m.filed.head l) h (g.filed.head l)
  owner_stays l from _ h = h

  -- ---- news

  news_stay : (news : SlotNews) → NewsKept part n news → NewsKept part m news
  news_stay news k = record {
    some = k.some;
    begun = up_to news.epoch n.epoch m.epoch k.begun g.epoch;
    horizon = λ none. let free = g.stay news.epoch none in k.horizon free ∙ sym (g.horizon news.epoch free k.begun);
    parts = λ none. let free = g.stay news.epoch none in k.parts free ∙ sym (g.parts news.epoch free k.begun);
    is_horizon = k.is_horizon;
  }

  all_news_stay : (slots : List SlotNews) → AllKept part n slots → AllKept part m slots
  all_news_stay slots all news fact same = news_stay news (all news fact same)

  registry_stays : (b : Body) → RegistryTells part n b → RegistryTells part m b
  registry_stays (body.MapNews x) h = all_news_stay x.slots h
  registry_stays (body.Welcome x) h = all_news_stay x.news.slots h
  registry_stays _ h = h

  -- ---- questions and answers

  module _ (asked more : Questions) (kept : (x : ℕ × ℕ × SegName) → tables.In x asked → tables.In x more) where
    check_stays : (c : Check) → CheckKnown part asked n c → CheckKnown part more m c
    check_stays c k = record { number = k.number; below = k.below; sent = g.sent _ k.sent; question = kept _ k.question }

    dead_stays : (d : Dead) → DeadKnown part asked n d → DeadKnown part more m d
    dead_stays d k = record { number = k.number; name = k.name; below = k.below; sent = g.sent _ k.sent; question = kept _ k.question }

    manager_stays : (b : Body) → ManagerSends part asked n b → ManagerSends part more m b
    manager_stays (body.Live l) h = λ inside. g.sent _ (h inside)
    manager_stays (body.Dead d) h = λ inside. dead_stays d (h inside)
    manager_stays (body.CkptDone d) h = λ inside. g.sent _ (h inside)
    manager_stays _ h = h

    cleaner_stays : (b : Body) → CleanerTells part n asked b → CleanerTells part m more b
    cleaner_stays (body.Check c) h = λ inside. check_stays c (h inside)
    cleaner_stays (body.Delete d) h = g.deleted d.name h
    cleaner_stays (body.Deltas d) h = owner_stays cleaners_number Cleaner (body.Deltas d) h
    cleaner_stays (body.Report r) h = owner_stays cleaners_number Cleaner (body.Report r) h
    cleaner_stays (body.Want w) h = owner_stays cleaners_number Cleaner (body.Want w) h
    cleaner_stays (body.Gave w) h = owner_stays cleaners_number Cleaner (body.Gave w) h
    cleaner_stays _ h = h

    pub sent_stays : (from : NodeId) (b : Body) → SentBy part n asked from b → SentBy part m more from b
    sent_stays (Client c) b h = owner_stays c (Client c) b h
    sent_stays (Manager j) b h = manager_stays b h
    sent_stays (Server v) b h = h
    sent_stays Cleaner b h = cleaner_stays b h
    sent_stays Registry b h = registry_stays b h
