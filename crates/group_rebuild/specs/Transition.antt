-- What a rebuild does at each input.
use Rattle.std.specs.Prelude.{ℕ, ◌+◌, Bool, ◌==◌, ◌&&◌, ◌||◌, not, nat_le, if◌then◌else◌, List, [], ◌∷◌, ◌++◌, Option, Some, None, is_some, length, map, fold}
use Rattle.std.specs.List.{list_any, flat_map, range_with_len}
use Rattle.std.specs.Map.{values_of, remove_entry}
use Rattle.std.specs.BTreeMap.{is_at, insert_entry}
use Rattle.stripe_code.specs.declared.round.Told.{Told}
use Rattle.stripe_code.specs.declared.round.Told.TheVariants.{Held, Missing}
use Rattle.xfs_base.specs.declared.fragment.FragMeta.{FragMeta}
use Rattle.xfs_base.specs.declared.segment.SegName.{SegName}
use Rattle.xfs_base.specs.Segments.{seg_cmp}
use Rattle.xfs_base.specs.Steps.{Stepped, still}
use Rattle.group_rebuild.specs.declared.input.In.{In}
use Rattle.group_rebuild.specs.declared.input.In.TheVariants as input
use Rattle.group_rebuild.specs.declared.output.Out.{Out}
use Rattle.group_rebuild.specs.declared.output.Out.TheVariants as out
use Rattle.group_rebuild.specs.RebuildState.{RebuildState}
use Rattle.group_rebuild.specs.Reads as reads
use Rattle.group_rebuild.specs.Reads.{ReadsState, reads_of, go_on}
use Rattle.group_rebuild.specs.Wanted.{wanted_in}

-- another server whose list is not in
abbrev pub awaits : RebuildState → ℕ → Bool
awaits s server = nat_le 1 server && (nat_le server s.groups.servers && (not (server == s.server) && not (list_any (λ v. v == server) s.heard)))

abbrev pub if_awaited : RebuildState → ℕ → List ℕ
if_awaited s before = if awaits s (before + 1) then (before + 1) ∷ [] else []

-- the other servers whose lists are not in, in order
abbrev pub awaited : RebuildState → List ℕ
awaited s = flat_map (if_awaited s) (range_with_len 0 s.groups.servers)

abbrev pub lists : List ℕ → List Out
lists servers = map (λ server. out.List server) servers

-- by name, with these too
abbrev pub listed_with : List FragMeta → List (SegName × FragMeta) → List (SegName × FragMeta)
listed_with metas entries = fold (λ es m. insert_entry seg_cmp es m.name m) entries metas

-- without these names
abbrev pub remove_names : List SegName → List (SegName × FragMeta) → List (SegName × FragMeta)
remove_names names entries = fold (λ es name. remove_entry (is_at (seg_cmp name)) es) entries names

-- this server's list is in
abbrev pub heard_from : RebuildState → ℕ → List FragMeta → RebuildState
heard_from s server metas = record s { heard = s.heard ++ server ∷ []; listed = listed_with metas s.listed }

-- a step of the reading is a step of the rebuild
abbrev pub with_reads : RebuildState → Stepped ReadsState Out → Stepped RebuildState Out
with_reads s r = record { state = record s { reads = Some r.state }; outs = r.outs }

-- all lists are in: the names that are held or marked are passed over, and the first of the others is read
abbrev pub rebuild_begin : RebuildState → List SegName → Stepped RebuildState Out
rebuild_begin s barred =
    let listed = remove_names barred s.listed in
    let wanted = wanted_in s.server s.groups (values_of listed) in
    with_reads (record s { listed = listed }) (go_on wanted (reads_of wanted))

abbrev pub begun_if_all : RebuildState → List SegName → Stepped RebuildState Out
begun_if_all s barred = if length (awaited s) == 0 then rebuild_begin s barred else still s

unfoldable pub on_listed : RebuildState → ℕ → List FragMeta → List SegName → Stepped RebuildState Out
on_listed s server metas barred =
    if is_some s.reads || not (awaits s server) then still s
    else begun_if_all (heard_from s server metas) barred

abbrev pub told_by : RebuildState → Option ReadsState → ℕ → ℕ → Told → Stepped RebuildState Out
told_by s None ask server told = still s
told_by s (Some r) ask server told = with_reads s (reads.reads_take r ask server told)

abbrev pub on_told : RebuildState → ℕ → ℕ → Told → Stepped RebuildState Out
on_told s ask server told = told_by s s.reads ask server told

abbrev pub repeated : RebuildState → Option ReadsState → List Out
repeated s None = lists (awaited s)
repeated s (Some r) = reads.on_tick r

-- what is unanswered is asked again
abbrev pub on_tick : RebuildState → List Out
on_tick s = repeated s s.reads

abbrev pub transition : RebuildState → In → Stepped RebuildState Out
transition s (input.Listed server metas barred) = on_listed s server metas barred
transition s (input.Got ask server generation fragment) = on_told s ask server (Held fragment)
transition s (input.Missing ask server generation) = on_told s ask server (Missing generation)
transition s (input.Maps groups) = still (record s { groups = groups })
transition s input.Tick = record { state = s; outs = on_tick s }
