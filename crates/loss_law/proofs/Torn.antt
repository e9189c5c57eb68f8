-- Where in two rounds more of the same pairs were Missing than the parity makes good, the segment was torn when the first one ended.
use Rattle.std.proofs.Common.{◌≡◌, ℕ, ◌<◌, ◌≤◌, Bool, true, List, length, subst, arith}
use Rattle.std.specs.Prelude.{is_none}
use Rattle.std.specs.List.{count_by, list_any}
use Rattle.xfs_base.specs.declared.segment.SegRef.{SegRef}
use Rattle.group_map.specs.declared.group.Member.{Member}
use Rattle.fragment_store.specs.ShelfState.{held_at}
use Rattle.segment_reading.specs.Lost.{same_pair, missing_twice}
use Rattle.log_protocol.specs.Tables.{In}
use Rattle.log_tie.specs.Setting.{Setting}
use Rattle.log_law.specs.Net.{Net}
use Rattle.log_law.specs.Events.{Runs}
use Rattle.loss_law.specs.Losses.{IsTorn}
use Rattle.loss_law.proofs.Counting.{Apart, Each, servers_of, Among, counted}
use Rattle.loss_law.proofs.Pairs.{each_on, each_both, each_filter, each_passes, apart_filter, found_before}
use Rattle.loss_law.proofs.Growing.{Base}
use Rattle.loss_law.proofs.Interval.{Before, Between, passed, lacks_between}

module _ (g : Setting) (seg : SegRef) (own : seg.name.log ≡ g.log) (m n : Net) (base : Base g m) (later : Runs g m n) (kept : In seg.name n.dropped → ⊥)
    (before now : List (ℕ × ℕ)) where
  abbrev members : List Member
  members = (g.stripe seg.group).members

  abbrev lack : ℕ → Bool
  lack v = is_none (held_at (m.shelves v).held seg.name)

  abbrev both : List (ℕ × ℕ)
  both = missing_twice before now

  -- each that was Missing twice was missing between
  all_lack : Each (λ p. Before g seg.name m p.0 p.1) before → Each (λ p. Between g seg.name m n p.0 p.1) now → Each (λ p. lack p.0 ≡ true) both
  all_lack first second = each_both (λ p. Before g seg.name m p.0 p.1) (λ p. Between g seg.name m n p.0 p.1) (λ p. lack p.0 ≡ true)
      (λ p one two. lacks_between g seg.name m n p.0 p.1 own base one two kept)
      both
      (each_on (λ p. list_any (same_pair p) before ≡ true) (λ p. Before g seg.name m p.0 p.1)
      (λ p fact. found_before (Before g seg.name m) p before first fact) both (each_passes (λ p. list_any (same_pair p) before) now))
      (each_filter (λ p. Between g seg.name m n p.0 p.1) (λ p. list_any (same_pair p) before) now second)

  pub is_torn : (servers : List ℕ) (parity : ℕ) → servers ≡ servers_of members → parity ≡ (g.stripe seg.group).parity
      → Each (λ p. Before g seg.name m p.0 p.1) before → Each (λ p. Between g seg.name m n p.0 p.1) now → Apart now → Each (Among servers) now
      → parity < length both → IsTorn g seg m
  is_torn servers parity of same first second apart among many = record { torn = torn; kept = λ fact. kept ((passed g m n base later).stays seg.name fact) }
    where
      all : length both ≤ count_by (λ (k : Member). lack k.server) members
      all = counted lack both members
          (apart_filter (λ p. list_any (same_pair p) before) now apart)
          (subst (λ s. Each (Among s) both) of (each_filter (Among servers) (λ p. list_any (same_pair p) before) now among))
          (all_lack first second)

      torn : (g.stripe seg.group).parity < count_by (λ (k : Member). is_none (held_at (m.shelves k.server).held seg.name)) members
      torn = let a = all in let b = many in let c = same in omega arith
