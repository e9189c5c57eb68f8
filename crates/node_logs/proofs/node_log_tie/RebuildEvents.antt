-- What each input makes of a rebuild stays seen.
use Rattle.std.proofs.Common.{ℕ, ◌==◌, ◌||◌, not, List, [], ◌∷◌, filter, length, Option, Some, None, refl, sym, subst, inl, inr}
use Rattle.std.specs.Option.{is_some}
use Rattle.std.specs.Prelude.{IfSome}
use Rattle.std.specs.BTreeMap.{is_at, insert_entry}
use Rattle.std.specs.List.{AllByRecursion}
use Rattle.std.specs.Map.{remove_entry, values_of}
use Rattle.xfs_base.proofs.Booleans.{by_test}
use Rattle.xfs_base.specs.declared.fragment.FragMeta.{FragMeta}
use Rattle.xfs_base.specs.declared.segment.SegName.{SegName}
use Rattle.xfs_base.specs.Segments.{seg_cmp}
use Rattle.xfs_base.specs.Steps.{Stepped, still}
use Rattle.xfs_base.proofs.Alls.{all_map, all_weaker}
use Rattle.stripe_code.specs.declared.round.Told.{Told}
use Rattle.stripe_code.specs.declared.round.Told.TheVariants.{Held, Missing}
use Rattle.stripe_code.specs.Round.{unanswered}
use Rattle.group_rebuild.specs.declared.input.In.{In as Input}
use Rattle.group_rebuild.specs.declared.input.In.TheVariants as input
use Rattle.group_rebuild.specs.declared.output.Out.{Out}
use Rattle.group_rebuild.specs.declared.output.Out.TheVariants as out
use Rattle.group_rebuild.specs.declared.reads.Present.{Present}
use Rattle.group_rebuild.specs.Reads.{ReadsState, reads_of, go_on, asked_again, reads_take}
use Rattle.group_rebuild.specs.RebuildState.{RebuildState}
use Rattle.group_rebuild.specs.Transition.{awaits, awaited, listed_with, remove_names, heard_from, rebuild_begin, begun_if_all, on_listed, told_by, repeated, transition}
use Rattle.group_rebuild.specs.Wanted.{wanted_in}
use Rattle.log_protocol.specs.Tables.{In}
use Rattle.log_tie.specs.Setting.{Setting}
use Rattle.log_tie.specs.Shelves.{is_of_log}
use Rattle.log_law.specs.Net.{Net}
use Rattle.log_law.specs.Net.Packet.{ListedSent}
use Rattle.node_logs.proofs.node_log_tie.Sight.{Later}
use Rattle.node_logs.specs.node_log_tie.ServerEvents.{NamesStripes, ListedOfLog, WantedSeen, ReadsSeen, RebuildSeen}
use Rattle.node_logs.proofs.node_log_tie.Lists.{all_insert, all_remove, if_some, in_filter}
use Rattle.node_logs.proofs.node_log_tie.Rebuilding.{listed_later, reads_later, all_wanted, OutSeen, ReadOn, goes_on_seen, TellsSent, answer_seen}

abbrev Entry : Type 0
Entry = SegName × FragMeta

-- a rebuild stays seen while the small world goes on
pub rebuild_later : (g : Setting) (n next : Net) → Later n next → (v : ℕ) (s : RebuildState) → RebuildSeen g n v s → RebuildSeen g next v s
rebuild_later g n next later v s h = record {
  server = h.server;
  groups = h.groups;
  listed = all_weaker (λ (e : Entry). ListedOfLog g n e.1) (λ (e : Entry). ListedOfLog g next e.1) (λ e. listed_later g n next later e.1) s.listed h.listed;
  reads = if_some (ReadsSeen g n v) (ReadsSeen g next v) (reads_later g n next later v) s.reads h.reads;
}

module _ (g : Setting) (n : Net) where
  abbrev EntryListed : Entry → Type 0
  EntryListed e = ListedOfLog g n e.1

  -- what a server lists that it holds, was listed
  listed_of : (held part : List FragMeta) → In (ListedSent (filter (λ (m : FragMeta). is_of_log g m.name) held)) n.sent
      → ((m : FragMeta) → In m part → In m held)
      → AllByRecursion (ListedOfLog g n) part
  listed_of held [] sent within = tt
  listed_of held (m ∷ ms) sent within = (
    λ own. record {
      lists = filter (λ (x : FragMeta). is_of_log g x.name) held;
      sent = sent;
      among = in_filter (λ (x : FragMeta). is_of_log g x.name) m held (within m (inl refl)) own;
    },
    listed_of held ms sent (λ x fact. within x (inr fact)),
  )

  pub all_listed : (held : List FragMeta) → In (ListedSent (filter (λ (m : FragMeta). is_of_log g m.name) held)) n.sent → AllByRecursion (ListedOfLog g n) held
  all_listed held sent = listed_of held held sent (λ m fact. fact)

  -- ---- the table of what is listed

  with_listed : (metas : List FragMeta) (es : List Entry) → AllByRecursion (ListedOfLog g n) metas → AllByRecursion EntryListed es
      → AllByRecursion EntryListed (listed_with metas es)
  with_listed [] es metas all = all
  with_listed (m ∷ ms) es metas all = with_listed ms (insert_entry seg_cmp es m.name m) metas.1 (all_insert EntryListed seg_cmp es m.name m (λ q. metas.0) all)

  without_barred : (names : List SegName) (es : List Entry) → AllByRecursion EntryListed es → AllByRecursion EntryListed (remove_names names es)
  without_barred [] es all = all
  without_barred (name ∷ names) es all = without_barred names (remove_entry (is_at (seg_cmp name)) es) (all_remove EntryListed (is_at (seg_cmp name)) es all)

  values_listed : (es : List Entry) → AllByRecursion EntryListed es → AllByRecursion (ListedOfLog g n) (values_of es)
  values_listed [] all = tt
  values_listed (e ∷ es) all = (all.0, values_listed es all.1)

  module _ (v : ℕ) where
    -- a step of the rebuild
    pub record RebuildOn (s : Stepped RebuildState Out) : Type 0 where
      pub rebuild : RebuildSeen g n v s.state
      pub outs : AllByRecursion (OutSeen g n v) s.outs

    begun_seen : (s : RebuildState) (barred : List SegName) → RebuildSeen g n v s → RebuildOn (rebuild_begin s barred)
    begun_seen s barred seen =
        let table = without_barred barred s.listed seen.listed in
        let metas = values_of (remove_names barred s.listed) in
        let wanted = subst (λ (server : ℕ). AllByRecursion (WantedSeen g n v) (wanted_in server s.groups metas)) (sym seen.server)
        (all_wanted g n v s.groups metas seen.groups (values_listed (remove_names barred s.listed) table)) in
        let on : ReadOn g n v (go_on (wanted_in s.server s.groups metas) (reads_of (wanted_in s.server s.groups metas))) =
        goes_on_seen g n v (wanted_in s.server s.groups metas) (reads_of (wanted_in s.server s.groups metas)) wanted in
        record { rebuild = record { server = seen.server; groups = seen.groups; listed = table; reads = on.reads }; outs = on.outs }

    listed_seen : (s : RebuildState) (server : ℕ) (metas : List FragMeta) (barred : List SegName) → RebuildSeen g n v s → AllByRecursion (ListedOfLog g n) metas
        → RebuildOn (on_listed s server metas barred)
    unfolding on_listed
    listed_seen s server metas barred seen all =
        by_test RebuildOn (is_some s.reads || not (awaits s server)) (still s) (begun_if_all (heard_from s server metas) barred)
        (λ t. record { rebuild = seen; outs = tt })
        (λ t. heard (record { server = seen.server; groups = seen.groups; listed = with_listed metas s.listed all seen.listed; reads = seen.reads }))
      where
        heard : RebuildSeen g n v (heard_from s server metas) → RebuildOn (begun_if_all (heard_from s server metas) barred)
        heard next =
            by_test RebuildOn (length (awaited (heard_from s server metas)) == 0) (rebuild_begin (heard_from s server metas) barred) (still (heard_from s server metas))
            (λ t. begun_seen (heard_from s server metas) barred next) (λ t. record { rebuild = next; outs = tt })

    told_seen : (s : RebuildState) (r : Option ReadsState) (ask server : ℕ) (told : Told) → RebuildSeen g n v s → IfSome r (ReadsSeen g n v)
        → TellsSent g n v told
        → RebuildOn (told_by s r ask server told)
    told_seen s None ask server told seen reads sent = record { rebuild = seen; outs = tt }
    told_seen s (Some r) ask server told seen reads sent =
        let on : ReadOn g n v (reads_take r ask server told) = answer_seen g n v r ask server told reads sent in
        record { rebuild = record { server = seen.server; groups = seen.groups; listed = seen.listed; reads = on.reads }; outs = on.outs }

    again_seen : (ask : ℕ) (p : Option Present) → AllByRecursion (OutSeen g n v) (asked_again ask p)
    again_seen ask None = tt
    again_seen ask (Some p) = all_map (OutSeen g n v) (λ (server : ℕ). out.Fetch server p.wanted.meta.name ask) (λ server. tt) (unanswered p.round)

    repeated_seen : (s : RebuildState) (r : Option ReadsState) → AllByRecursion (OutSeen g n v) (repeated s r)
    repeated_seen s None = all_map (OutSeen g n v) (λ (server : ℕ). out.List server) (λ server. tt) (awaited s)
    repeated_seen s (Some r) = again_seen r.ask r.present

    -- what is owed an input: what comes was sent
    abbrev pub InputSent : Input → Type 0
    InputSent (input.Listed server metas barred) = AllByRecursion (ListedOfLog g n) metas
    InputSent (input.Got ask server generation f) = TellsSent g n v (Held f)
    InputSent (input.Missing ask server generation) = Unit {0}
    InputSent (input.Maps groups) = NamesStripes g groups
    InputSent input.Tick = Unit {0}

    pub rebuild_takes : (s : RebuildState) (i : Input) → RebuildSeen g n v s → InputSent i → RebuildOn (transition s i)
    rebuild_takes s (input.Listed server metas barred) seen sent = listed_seen s server metas barred seen sent
    rebuild_takes s (input.Got ask server generation f) seen sent = told_seen s s.reads ask server (Held f) seen seen.reads sent
    rebuild_takes s (input.Missing ask server generation) seen sent = told_seen s s.reads ask server (Missing generation) seen seen.reads tt
    rebuild_takes s (input.Maps groups) seen sent =
        record { rebuild = record { server = seen.server; groups = sent; listed = seen.listed; reads = seen.reads }; outs = tt }
    rebuild_takes s input.Tick seen sent = record { rebuild = seen; outs = repeated_seen s s.reads }
