-- The fragments of a segment come to the client that reads a block from it, one member after another: with as many as the text has pieces it is read, the get
-- answers, and the others change nothing.
use Rattle.std.proofs.Common.{◌≡◌, ℕ, zero, suc, ◌+◌, ◌-◌, ◌<◌, ◌==◌, ◌||◌, Bool, true, false, List, [], ◌∷◌, ◌++◌, length, length-append, map, Some, None, refl, sym, ap, subst, ◌∙◌, append_assoc, arith}
use Rattle.std.specs.List.{AllByRecursion, list_any}
use Rattle.client_call.specs.Blocks.{value_of}
use Rattle.client_node.specs.Phases.{client_step}
use Rattle.client_call.specs.Reads.{target_of, value_at}
use Rattle.group_map.specs.declared.group.Group.{Group}
use Rattle.group_map.specs.declared.group.Member.{Member}
use Rattle.log_flight.specs.Fragments.{flight_fragment}
use Rattle.node_base.specs.Known.{knows_meta}
use Rattle.node_base.specs.Maps.{maps_start}
use Rattle.node_base.specs.Nodes.{has_node, peers_of}
use Rattle.node_base.specs.Shape.{is_meta}
use Rattle.segment_format.specs.declared.segment.Segment.{Segment}
use Rattle.segment_format.specs.ReadingItems.{answer_of}
use Rattle.segment_format.specs.Text.{text_of}
use Rattle.segment_reading.specs.Reading.{ReadingState, counts, segment_found}
use Rattle.stripe_code.specs.declared.round.Told.TheVariants.{Held as HeldPiece}
use Rattle.stripe_code.specs.Round.{asks}
use Rattle.stripe_code.specs.Stripe.{IsBytes, IsCut}
use Rattle.token_client.specs.declared.held.Fetch.{Fetch}
use Rattle.token_client.specs.declared.held.Held.{Held}
use Rattle.token_client.specs.Held.{must_ask}
use Rattle.token_client.specs.State.{held_of}
use Rattle.version_model.specs.declared.act.Act.{Act}
use Rattle.version_model.specs.declared.act.Act.TheVariants as acts
use Rattle.version_model.specs.declared.answer.Answer.TheVariants.{Got}
use Rattle.version_model.specs.declared.work.Work.{Work}
use Rattle.wire_msg.specs.declared.packet.Do.TheVariants.{Deliver}
use Rattle.wire_msg.specs.declared.packet.Packet.{Packet}
use Rattle.xfs_base.proofs.SegmentNames.{same_itself}
use Rattle.xfs_base.specs.declared.block.BlockId.{BlockId}
use Rattle.xfs_base.specs.declared.entry.Place.{Place}
use Rattle.xfs_base.specs.declared.node.NodeId.{NodeId}
use Rattle.xfs_base.specs.declared.node.NodeId.TheVariants.{Client, Server}
use Rattle.xfs_base.specs.declared.setup.Setup.{Setup}
use Rattle.xfs_base.specs.declared.token.Mode.TheVariants.{Nothing, Copy}
use Rattle.xfs_base.specs.Segments.{same_name}
use Rattle.quiet_nodes.proofs.Begins.{HasRoom}
use Rattle.quiet_nodes.proofs.Moving.{moves_none}
use Rattle.quiet_nodes.proofs.Turns.{client_takes}
use Rattle.quiet_nodes.specs.Moves.{Moves}
use Rattle.quiet_nodes.proofs.Tests.{same_test}
use Rattle.quiet_nodes.specs.Scene.{ClientPart, Scene, client_at, its_groups, with_client}
use Rattle.quiet_reads.proofs.CopyReads.{read_part}
use Rattle.quiet_reads.proofs.FragmentComes.{IsTakenIn, copy_of, found_body, fragment_late, fragment_reads, fragment_waits, reading_at, reads_with}
use Rattle.quiet_reads.proofs.ReadRounds.{AreOthers, fits_in, meta_is, reads_text, round_with, taken_is, waits_for}

module _ (setup : Setup) (works : NodeId → List Work) (c ask : ℕ) (segment : Segment) (group : Group) where
  -- the fragments on their way, the first of them that at a place
  abbrev pub founds_from : List Member → ℕ → List Packet
  founds_from [] at = []
  founds_from (m ∷ ms) at =
      record { from = Server m.server; to = Client c; clock = 0; body = found_body ask (flight_fragment segment group at) } ∷ founds_from ms (at + 1)

  -- the members of the group are servers that differ, and their fragments are of a log and of groups that there are
  pub record AreMembers : Type 0 where
    pub servers : AllByRecursion (λ (m : Member). has_node (peers_of setup) (Server m.server) ≡ true) group.members
    pub apart : (before rest : List Member) (m : Member) → group.members ≡ before ++ m ∷ rest → AreOthers segment group m.server before
    pub cut : IsCut (length group.members) group.parity
    pub of_log : (at : ℕ) → is_meta (flight_fragment segment group at).meta ≡ true
    pub known : (at : ℕ) → knows_meta (maps_start (its_groups setup works)) (flight_fragment segment group at).meta ≡ true

  its_server : (v : ℕ) → (before rest : List Member) (m : Member) → m.server ≡ v
      → list_any (λ x. x == v) (map (λ (x : Member). x.server) (before ++ m ∷ rest)) ≡ true
  its_server v [] rest m is = ap (λ n. (n == v) || list_any (λ x. x == v) (map (λ (x : Member). x.server) rest)) is ∙ or_same v
    where
      or_same : (n : ℕ) → ((n == n) || list_any (λ x. x == v) (map (λ (x : Member). x.server) rest)) ≡ true
      or_same n = ap (λ t. t || list_any (λ x. x == v) (map (λ (x : Member). x.server) rest)) (same_test n)
  its_server v (x ∷ before) rest m is =
      ap (λ t. (x.server == v) || t) (its_server v before rest m is) ∙ or_true (x.server == v)
    where
      or_true : (t : Bool) → (t || true) ≡ true
      or_true true = refl
      or_true false = refl

  among : (before rest : List Member) (m : Member) → AllByRecursion (λ (x : Member). has_node (peers_of setup) (Server x.server) ≡ true) (before ++ m ∷ rest)
      → has_node (peers_of setup) (Server m.server) ≡ true
  among [] rest m all = all.0
  among (x ∷ before) rest m all = among before rest m all.1

  module _ (s : Scene) (p : ClientPart) (b : BlockId) (item : ℕ) (place : Place) (fetch : Fetch) (are : AreMembers) where
    -- the segment can be read, and the client fetches the block from it
    pub record CanBeRead : Type 0 where
      pub there : has_node (peers_of setup) (Client c) ≡ true
      pub bytes : IsBytes (text_of segment)
      pub name : segment.name ≡ place.seg.name
      pub found : segment_found (target_of b place) (its_groups setup works) (answer_of (text_of segment)) ≡ Some segment
      pub its_fetch : (held_of p.blocks b).fetch ≡ Some fetch
      pub no_want : (held_of p.blocks b).want ≡ None
      pub asks : must_ask (held_of p.blocks b) Copy ≡ false
      pub nothing : (held_of p.blocks b).mode ≡ Nothing
      pub room : (r : ReadingState) → HasRoom setup works c (reads_with p b item r)

    abbrev count : ℕ
    count = length group.members - group.parity

    -- the client once these members have told their fragments, and once the block is read
    abbrev pub after_telling : List Member → ClientPart
    after_telling ms = reads_with p b item (reading_at (target_of b place) ask (round_with segment group ms))

    abbrev pub read_copy : Held
    read_copy = copy_of (held_of p.blocks b) fetch.ver (value_at segment place.item)

    abbrev pub once_read : ClientPart
    once_read = read_part setup works c p b item read_copy

    abbrev pub done : List Act
    done = acts.Read c b fetch.ver (value_of read_copy) ∷ acts.Answered (Client c) item (Got fetch.ver (value_of read_copy)) ∷ []

    module _ (can : CanBeRead) (room_then : HasRoom setup works c once_read) where
      taken_in : (before rest : List Member) (m : Member) → group.members ≡ before ++ m ∷ rest → (at : ℕ)
          → IsTakenIn setup works c m.server (flight_fragment segment group at) ask
      taken_in before rest m is at = record {
        there = among before rest m
            (subst (λ ms. AllByRecursion (λ (x : Member). has_node (peers_of setup) (Server x.server) ≡ true) ms) is are.servers);
        of_log = are.of_log at;
        known = are.known at;
      }

      counted : (before rest : List Member) (m : Member) → group.members ≡ before ++ m ∷ rest → length before < count
          → counts (reading_at (target_of b place) ask (round_with segment group before)) ask m.server (HeldPiece (flight_fragment segment group (length before))) ≡ true
      counted before rest m is few =
          let asks_it : asks (round_with segment group before) m.server ≡ true
          = ap (λ ms. list_any (λ x. x == m.server) (map (λ (x : Member). x.server) ms)) is ∙ its_server m.server before rest m refl in
          let named : same_name (flight_fragment segment group (length before)).meta.name place.seg.name ≡ true
          = ap (λ meta. same_name meta.name place.seg.name) (meta_is segment group (length before))
          ∙ ap (λ n. same_name n place.seg.name) can.name ∙ same_itself place.seg.name in
          let fits_it = fits_in segment group before (length before) refl few in
          rw (same_test ask, asks_it, named, fits_it) refl

      lates_move : (before ms : List Member) → group.members ≡ before ++ ms → (at : ℕ)
          → Moves setup works (with_client s c once_read) (founds_from ms at) [] [] (with_client s c once_read)
      lates_move before [] is at = moves_none setup works (with_client s c once_read)
      lates_move before (m ∷ ms) is at =
          client_takes setup works s c once_read once_read (with_client s c once_read) (Server m.server) (found_body ask (flight_fragment segment group at)) []
          (founds_from ms (at + 1)) [] [] [] can.there
          (fragment_late setup works c m.server (flight_fragment segment group at) ask once_read refl room_then (taken_in before ms m is at))
          (lates_move (before ++ m ∷ []) ms (is ∙ sym (append_assoc before (m ∷ []) ms)) (at + 1))

      one_more : (before : List Member) (m : Member) → length (before ++ m ∷ []) ≡ length before + 1
      one_more before m = length-append before (m ∷ [])

      pub fragments_move : (left : ℕ) (before rest : List Member) → group.members ≡ before ++ rest → length before + suc left ≡ count → (at : ℕ) → at ≡ length before
          → Moves setup works (with_client s c (after_telling before)) (founds_from rest at) [] (done ++ []) (with_client s c once_read)
      fragments_move left before [] is few at place_is =
          absurd (let long : length group.members ≡ length (before ++ []) = ap length is in let both = length-append before [] in
          let none : length {A = Member} [] ≡ 0 = refl in omega arith)
      fragments_move zero before (m ∷ rest) is few at place_is =
          let long = one_more before m in
          client_takes setup works s c (after_telling before) once_read (with_client s c once_read) (Server m.server) (found_body ask (flight_fragment segment group at)) []
          (founds_from rest (at + 1)) [] done [] can.there
          (subst
          (λ n. client_step (client_at setup works c (after_telling before))
          (Deliver (record { from = Server m.server; to = Client c; clock = 0; body = found_body ask (flight_fragment segment group n) }))
          ≡ record { node = client_at setup works c once_read; packets = []; acts = done }) (sym place_is)
          (fragment_reads setup works c m.server (flight_fragment segment group (length before)) ask p b item (target_of b place) place.item (round_with segment group before)
          (round_with segment group (before ++ m ∷ [])) refl (counted before rest m is (omega arith)) (taken_is segment group before m (are.apart before rest m is))
          (can.room (reading_at (target_of b place) ask (round_with segment group before))) (taken_in before rest m is (length before)) (text_of segment) segment
          (reads_text segment group (before ++ m ∷ []) are.cut can.bytes (omega arith)) can.found fetch can.its_fetch can.no_want))
          (lates_move (before ++ m ∷ []) rest (is ∙ sym (append_assoc before (m ∷ []) rest)) (at + 1))
      fragments_move (suc left) before (m ∷ []) is few at place_is =
          absurd (let long : length group.members ≡ length (before ++ m ∷ []) = ap length is in let both = one_more before m in omega arith)
      fragments_move (suc left) before (m ∷ next ∷ rest) is few at place_is =
          let long = one_more before m in
          let later : group.members ≡ (before ++ m ∷ []) ++ next ∷ rest = is ∙ sym (append_assoc before (m ∷ []) (next ∷ rest)) in
          client_takes setup works s c (after_telling before) (after_telling (before ++ m ∷ [])) (with_client s c once_read) (Server m.server)
          (found_body ask (flight_fragment segment group at)) [] (founds_from (next ∷ rest) (at + 1)) [] [] (done ++ []) can.there
          (subst
          (λ n. client_step (client_at setup works c (after_telling before))
          (Deliver (record { from = Server m.server; to = Client c; clock = 0; body = found_body ask (flight_fragment segment group n) }))
          ≡ record { node = client_at setup works c (after_telling (before ++ m ∷ [])); packets = []; acts = [] }) (sym place_is)
          (fragment_waits setup works c m.server (flight_fragment segment group (length before)) ask p b item (target_of b place) place.item (round_with segment group before)
          (round_with segment group (before ++ m ∷ [])) refl (counted before (next ∷ rest) m is (omega arith))
          (taken_is segment group before m (are.apart before (next ∷ rest) m is))
          (can.room (reading_at (target_of b place) ask (round_with segment group before))) (taken_in before (next ∷ rest) m is (length before))
          (waits_for segment group (before ++ m ∷ []) rest next later (omega arith) (are.apart (before ++ m ∷ []) rest next later)) can.asks can.nothing))
          (fragments_move left (before ++ m ∷ []) (next ∷ rest) later (omega arith) (at + 1) (ap (λ n. n + 1) place_is ∙ sym long))
