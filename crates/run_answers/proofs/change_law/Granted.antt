-- A grant to own that a client would accept names the newest version: a write by it, and then a read, would be steps of the small world, in which all reads are of
-- the newest version.
use Rattle.std.proofs.Common.{◌≡◌, ℕ, ◌<◌, ◌+◌, Bool, true, false, cond, nat_lt, List, [], ◌∷◌, ◌++◌, Option, None, refl, sym, ap, subst, ◌∙◌, append-nil, arith}
use Rattle.act_tie.proofs.Onward.{acts_on, apart_on}
use Rattle.act_tie.specs.BlockActs.{acts_of}
use Rattle.node_slots.proofs.node_tie.ClientOwned.{owned_so}
use Rattle.node_slots.proofs.node_tie.SmallWorld.{with_promise}
use Rattle.token_client.proofs.Tables.{held_of-put_itself}
use Rattle.token_client.specs.declared.held.Held.{Held}
use Rattle.token_client.specs.Held.{held_own, held_write, may_write}
use Rattle.token_client.specs.State.{TokensState, held_of, with_held}
use Rattle.token_client.specs.Transition as tokens_of_client
use Rattle.token_client.specs.Transition.{accepts, on_granted, on_wrote}
use Rattle.token_law.specs.Laws.{ActsAreLegal, IsClient}
use Rattle.token_law.specs.Net.{Net, Runs, acted, after_client, opening}
use Rattle.token_law.specs.Net.Happens.{GetsOwn, Reads}
use Rattle.token_law.specs.Net.Packet.{GrantSent}
use Rattle.token_law.specs.Net.Runs.{On}
use Rattle.token_protocol.specs.Acts.{LegalActs}
use Rattle.token_protocol.specs.Basics.{In}
use Rattle.token_tie.proofs.Frames.{put_here}
use Rattle.token_tie.specs.Inputs.{granted_and_wrote}
use Rattle.version_model.specs.declared.act.Act.{Act}
use Rattle.version_model.specs.declared.act.Act.TheVariants as act
use Rattle.version_model.specs.Effects.{after_act, history_after}
use Rattle.version_model.specs.Falls.{FallsApart}
use Rattle.version_model.specs.History.{History, nothing_yet}
use Rattle.version_model.specs.Legal.{AreLegalFrom, IsLegalIn}
use Rattle.run_laws.proofs.world_law.Laws as world
use Rattle.run_laws.proofs.world_law.RegistryTurns.{slot_below}
use Rattle.run_laws.proofs.world_reads.LegalJoints.{of_block}
use Rattle.run_laws.specs.world_law.Standing.{members}
use Rattle.run_laws.specs.world_reads.Joint.{Joint, k}
use Rattle.run_laws.specs.world_reads.LoggedRuns.{LoggedRun}
use Rattle.run_laws.specs.world_reads.TokensBelow.{BlocksMakeLegal}
use Rattle.headline.specs.Moments.{moment}
use Rattle.headline.specs.Updates.{versions_behind}
use Rattle.run_answers.proofs.change_law.Finding.{versions_then}
use Rattle.xfs_base.proofs.BlockOrder.{same_block_exact, same_block_itself}
use Rattle.xfs_base.proofs.Booleans.{by_test, contrary, equal_itself}
use Rattle.xfs_base.specs.Blocks.{same_block, slot_of}
use Rattle.xfs_base.specs.declared.block.BlockId.{BlockId}
use Rattle.xfs_base.specs.declared.entry.Entry.{Entry}
use Rattle.xfs_base.specs.declared.token.Mode.TheVariants.{Own}
use Rattle.xfs_base.specs.declared.token.Stamp.{Stamp}
use Rattle.xfs_base.specs.Limits.{slot_count, u64_end}
use Rattle.xfs_base.specs.Modes.{is_held}
use Rattle.xfs_base.specs.Steps.{still}

-- where acts are legal, the last of them is, after the others
last_legal : (acts : List Act) (a : Act) (h : History) → AreLegalFrom h (acts ++ a ∷ []) → IsLegalIn a (history_after acts h)
last_legal [] a h legal = legal.0
last_legal (x ∷ acts) a h legal = last_legal acts a (after_act x h) legal.1

untold : {X : Type 0} (t : Bool) (xs : List X) → t ≡ false → cond t xs [] ≡ []
untold true xs fact = contrary (sym fact)
untold false xs fact = refl

-- one, where this is so
abbrev one_if : Bool → ℕ
one_if t = cond t 1 0

-- what may be written is, at the next version
wrote_known : (t : TokensState) (b : BlockId) (value : Option (List ℕ)) → may_write (held_of t.blocks b) ≡ true
    → held_of (on_wrote t b value).state.blocks b ≡ held_write (held_of t.blocks b) value
unfolding on_wrote
wrote_known t b value may =
    by_test (λ (d : tokens_of_client.Done). held_of d.state.blocks b ≡ held_write (held_of t.blocks b) value) (may_write (held_of t.blocks b))
    (still (with_held t b (held_write (held_of t.blocks b) value))) (still t)
    (λ _. held_of-put_itself b (held_write (held_of t.blocks b) value) t.blocks) (λ none. contrary (sym none ∙ may))

module _ (law : ActsAreLegal) (blocks : BlocksMakeLegal) (laws : world.NodeLaws) (logged : LoggedRun) (count : ℕ)
    (apart : FallsApart (moment logged.estate count).acts) (joints : (part : ℕ) → part < slot_count → Joint logged part count) (b : BlockId) where
  open logged use {estate as e}

  abbrev all : List Act
  all = (moment e count).acts

  abbrev pub part : ℕ
  part = slot_of b.ino.0

  abbrev pub joint : Joint logged part count
  joint = joints part (slot_below b.ino.0)

  abbrev net : Net
  net = with_promise 1 joint.tok.net

  module _ (c : ℕ) (client : IsClient (members (k logged part) part) c) (up : joint.tok.net.up c ≡ true) (stamp : Stamp) (inc req : ℕ) (entry : Entry)
      (sent : In (GrantSent c b stamp inc req Own entry) joint.tok.net.sent) (taken : accepts (joint.tok.net.tokens c) b stamp inc req Own ≡ true)
      (below : nat_lt entry.ver u64_end ≡ true)
      (may : may_write (held_of (on_granted (joint.tok.net.tokens c) b stamp inc req Own entry).state.blocks b) ≡ true) where
    abbrev t : TokensState
    t = net.tokens c

    -- it is written
    abbrev wrote : Act
    wrote = act.Wrote c b None

    abbrev once : Net
    once = acted (after_client net c (net.books.end c) (granted_and_wrote t stamp inc req b entry None)) (wrote ∷ [])

    writes : Runs true (members (k logged part) part) part opening once
    writes =
        On joint.tokens_stand.runs
        (GetsOwn c (net.books.end c) b stamp inc req entry None (record { some = client.some; within = client.within; up = up; end_is = refl }) sent taken below)

    held : held_of (once.tokens c).blocks b ≡ held_write (held_own (held_of t.blocks b) stamp entry.ver) None
    held =
        ap (λ (u : TokensState). held_of u.blocks b) (put_here net.tokens c (granted_and_wrote t stamp inc req b entry None).state)
        ∙ (wrote_known (on_granted t b stamp inc req Own entry).state b None may
        ∙ ap (λ (h : Held). held_write h None) (owned_so t b stamp inc req entry taken).known)

    -- and read
    abbrev read : Act
    read = act.Read c b (held_of (once.tokens c).blocks b).ver None

    abbrev twice : Net
    twice = acted once (read ∷ [])

    reads : Runs true (members (k logged part) part) part opening twice
    reads =
        On writes
        (Reads c b None client.some client.within up (ap (λ (h : Held). is_held h.mode) held) (ap (λ (h : Held). h.value) held))

    abbrev more : List Act
    more = (all ++ wrote ∷ []) ++ read ∷ []

    own : LegalActs (acts_of b more)
    own =
        subst (λ acts. LegalActs (acts_of b ((acts ++ wrote ∷ []) ++ read ∷ []))) joint.tokens_stand.acts
        (law (members (k logged part) part) part twice b (record { run = reads; inside = equal_itself part }))

    each : (other : BlockId) → LegalActs (acts_of other more)
    each other = by (same_block b other) refl
      where
        by : (t : Bool) → same_block b other ≡ t → LegalActs (acts_of other more)
        by true fact = subst (λ x. LegalActs (acts_of x more)) (sym (same_block_exact b other fact)) own
        by false fact =
            subst LegalActs
            (sym (acts_on other (all ++ wrote ∷ []) read ∙ ap (λ rest. acts_of other (all ++ wrote ∷ []) ++ rest) (untold (same_block b other) _ fact)
            ∙ append-nil (acts_of other (all ++ wrote ∷ []))
            ∙ acts_on other all wrote ∙ ap (λ rest. acts_of other all ++ rest) (untold (same_block b other) _ fact)
            ∙ append-nil (acts_of other all)))
            (of_block law blocks logged count apart joints other)

    pub granted_is_newest : entry.ver ≡ versions_behind all b
    granted_is_newest =
        let legal = last_legal (all ++ wrote ∷ []) read nothing_yet
        (blocks more (apart_on (all ++ wrote ∷ []) read nothing_yet (apart_on all wrote nothing_yet apart tt) tt) each) in
        let newest : (held_of (once.tokens c).blocks b).ver ≡ versions_behind (all ++ wrote ∷ []) b = legal.0 in
        let ver : (held_of (once.tokens c).blocks b).ver ≡ entry.ver + 1 = ap (λ (h : Held). h.ver) held in
        let count : versions_behind (all ++ wrote ∷ []) b ≡ versions_behind all b + one_if (same_block b b) = versions_then all (wrote ∷ []) b (tt, tt) in
        let one : one_if (same_block b b) ≡ 1 = ap one_if (same_block_itself b) in
        omega arith
