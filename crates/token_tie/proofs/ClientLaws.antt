-- The laws of a client's inputs.
use Rattle.std.specs.Prelude.{if◌then◌else◌}
use Rattle.std.proofs.Common.{◌≡◌, ◌≤◌, ℕ, Bool, true, false, cond, List, [], ◌∷◌, Some, ap, ◌∙◌, ◌&&◌, sym, subst, refl, arith, nat_lt, nat_le, max}
use Rattle.std.proofs.lemmas.Bool.Decides.{nat_tests}
use Rattle.xfs_base.specs.declared.block.BlockId.{BlockId}
use Rattle.xfs_base.specs.Blocks.{same_block}
use Rattle.xfs_base.specs.Steps.{still}
use Rattle.xfs_base.proofs.BlockOrder.{same_block_exact, same_block_itself}
use Rattle.token_client.specs.declared.held.Held.{Held}
use Rattle.token_client.specs.declared.input.In.TheVariants.{Need, Granted, Supplied, Forwarded, Recalled, Wrote, Settled, Fetched, Evict, Reask, Quit, Promise, Tick}
use Rattle.token_client.specs.declared.held.Fetch.{Fetch}
use Rattle.token_client.specs.Held.{is_settled_by, may_write, version_settled}
use Rattle.token_client.specs.State.{TokensState, held_of, with_held}
use Rattle.token_client.specs.Transition.{Done, on_need, on_granted, on_supplied, on_recalled, on_wrote, on_settled, on_fetched, on_evict, on_reask, on_quit}
use Rattle.token_client.proofs.Tables.{held_of-put_itself}
use Rattle.token_protocol.specs.Acts.{Act}
use Rattle.token_protocol.specs.Acts.Act.{Wrote as WroteBlock}
use Rattle.token_protocol.specs.Client.{Client}
use Rattle.token_protocol.specs.Premises.{Premise, PlaceRead}
use Rattle.token_protocol.specs.Step.Step.{Settles}
use Rattle.token_protocol.specs.World.{World, flying_row}
use Rattle.token_protocol.specs.Logging.{settles}
use Rattle.token_tie.specs.Seen.{Setting, Local, Shows, SentRecall, local_of}
use Rattle.token_tie.specs.Taken.{Acted, Took}
use Rattle.token_tie.specs.Inputs.{Ready, GrantBrings, SentSupply, TakesInputs, OwnsAndWrites, OwnsAndDeclines, SettlesBlocks}
use Rattle.token_tie.proofs.Frames.{put_here}
use Rattle.token_tie.proofs.SmallFacts.{restamped}
use Rattle.token_tie.proofs.Elsewhere as elsewhere
use Rattle.token_tie.proofs.Takes as takes
use Rattle.token_tie.proofs.Takes.{at_block}
use Rattle.token_tie.proofs.Recalling.{on_recalled-here}
use Rattle.token_tie.proofs.Promising.{on_promise-took, on_tick-took}
use Rattle.xfs_base.proofs.Booleans.{by_test}

pub takes_inputs : TakesInputs
takes_inputs logs g end w s (Need block mode) r b =
    at_block g (λ k. Took logs g end w (on_need s k mode)) (takes.on_need-here logs g end w s r mode)
    (λ k o. elsewhere.apart_took g logs end w s _ (elsewhere.on_need-apart g k o s mode) r.shows) block
takes_inputs logs g end w s (Granted block stamp inc req mode entry) r b =
    at_block g (λ k. GrantBrings g w stamp inc req k mode entry → Took logs g end w (on_granted s k stamp inc req mode entry))
    (takes.on_granted-here logs g end w s r stamp inc req mode entry)
    (λ k o _. elsewhere.apart_took g logs end w s _ (elsewhere.on_granted-apart g k o s stamp inc req mode entry) r.shows) block b
takes_inputs logs g end w s (Supplied block stamp inc req ver value) r b =
    at_block g (λ k. (k ≡ g.block → SentSupply logs g w stamp inc req ver value) → Took logs g end w (on_supplied s k stamp inc req ver value))
    (λ c. takes.on_supplied-here logs g end w s r stamp inc req ver value (c refl))
    (λ k o _. elsewhere.apart_took g logs end w s _ (elsewhere.on_supplied-apart g k o s stamp inc req ver value) r.shows) block b
takes_inputs logs g end w s (Forwarded block stamp ver) r b = takes.on_forwarded-took logs g end w s r stamp block ver
takes_inputs logs g end w s (Recalled block stamp keep) r b =
    at_block g (λ k. (k ≡ g.block → SentRecall g.client w stamp keep) → Took logs g end w (on_recalled s k stamp keep))
    (λ c. on_recalled-here logs g end w s r stamp keep (c refl))
    (λ k o _. elsewhere.apart_took g logs end w s _ (elsewhere.on_recalled-apart g k o s stamp keep) r.shows) block b
takes_inputs logs g end w s (Wrote block value) r b =
    let wrote : Bool → List Act = λ t. if t then WroteBlock g.client (g.number value) ∷ [] else [] in
    at_block g (λ k. Acted logs g end w (if may_write (held_of s.blocks k) then wrote (same_block k g.block) else []) (on_wrote s k value))
    (subst (λ t. Acted logs g end w (if may_write (held_of s.blocks g.block) then wrote t else []) (on_wrote s g.block value)) (sym (same_block_itself g.block))
    (takes.on_wrote-here logs g end w s r value))
    (λ k o. subst (λ acts. Acted logs g end w acts (on_wrote s k value))
    (sym (no_acts (may_write (held_of s.blocks k)) (wrote (same_block k g.block)) (ap wrote (differs k o (same_block k g.block) refl))))
    (elsewhere.apart_took g logs end w s _ (elsewhere.on_wrote-apart g k o s value) r.shows)) block
  where
    no_acts : (t : Bool) (acts : List Act) → acts ≡ [] → (if t then acts else []) ≡ []
    no_acts true acts none = none
    no_acts false acts none = refl

    differs : (k : BlockId) → (k ≡ g.block → ⊥) → (t : Bool) → same_block k g.block ≡ t → t ≡ false
    differs k o true fact = absurd (o (sym (same_block_exact k g.block fact)))
    differs k o false fact = refl
takes_inputs logs g end w s (Settled block ver) r b =
    at_block g (λ k. (k ≡ g.block → is_settled_by (held_of s.blocks k) ver ≡ false) → Took logs g end w (on_settled s k ver))
    (λ c. takes.on_settled-still logs g end w s r ver (c refl))
    (λ k o _. elsewhere.apart_took g logs end w s _ (elsewhere.on_settled-apart g k o s ver) r.shows) block b
takes_inputs logs g end w s (Fetched block value) r b =
    at_block g (λ k. (k ≡ g.block → (f : Fetch) → (held_of s.blocks k).fetch ≡ Some f → Premise logs (PlaceRead w g.client (g.number value)))
    → Took logs g end w (on_fetched s k value)) (λ c. takes.on_fetched-here logs g end w s r value (c refl))
    (λ k o _. elsewhere.apart_took g logs end w s _ (elsewhere.on_fetched-apart g k o s value) r.shows) block b
takes_inputs logs g end w s (Evict block) r b =
    at_block g (λ k. Took logs g end w (on_evict s k)) (takes.on_evict-here logs g end w s r)
    (λ k o. elsewhere.apart_took g logs end w s _ (elsewhere.on_evict-apart g k o s) r.shows) block
takes_inputs logs g end w s (Reask block) r b =
    at_block g (λ k. Took logs g end w (on_reask s k)) (takes.on_reask-here logs g end w s r)
    (λ k o. elsewhere.apart_took g logs end w s _ (elsewhere.on_reask-apart g k o s) r.shows) block
takes_inputs logs g end w s (Quit block) r b =
    at_block g (λ k. Took logs g end w (on_quit s k)) (takes.on_quit-here logs g end w s r)
    (λ k o. elsewhere.apart_took g logs end w s _ (elsewhere.on_quit-apart g k o s) r.shows) block
takes_inputs logs g end w s (Promise slot epoch) r b = on_promise-took logs g end w s r slot epoch
takes_inputs logs g end w s Tick r b = on_tick-took logs g end w s r

pub owns_and_writes : OwnsAndWrites
owns_and_writes logs g end w s stamp inc req entry value r sent t room = takes.owns_and_writes logs g end w s r stamp inc req entry value sent t room

pub owns_and_declines : OwnsAndDeclines
owns_and_declines logs g end w s stamp inc req entry r sent t = takes.owns_and_declines logs g end w s r stamp inc req entry sent t

-- what is settled, whether or not it is news
now_settled : (settled ver limit : ℕ) → ver ≤ limit → (t : Bool) → (nat_lt settled ver && nat_le ver limit) ≡ t → max settled ver ≡ cond t ver settled
now_settled settled ver limit below true h = grind (arith, nat_tests)
now_settled settled ver limit below false h = grind (arith, nat_tests)

module _ (logs : Bool) (g : Setting) (end : ℕ) (w : World) (s : TokensState) (ver : ℕ) (r : Ready logs g end w s) where
  abbrev h : Held
  h = held_of s.blocks g.block

  abbrev l : Local
  l = local_of s g.block

  abbrev y : Client
  y = record (w.client g.client) { settled = max (w.client g.client).settled (flying_row w g.client).version }

  shown : (n : ℕ) → y.settled ≡ n → Shows g w.epoch (record l { held = record h { settled = n } }) y
  shown n fact = record {
    client = r.shows.client;
    serving = r.shows.serving;
    boot = r.shows.boot;
    incarnation = r.shows.incarnation;
    stamps = restamped _ (w.client g.client) y w.epoch refl refl r.shows.stamps;
    mode = r.shows.mode;
    counted = r.shows.counted;
    want = r.shows.want;
    version = r.shows.version;
    settled = fact;
    value = r.shows.value;
    fetch = r.shows.fetch;
  }

  settled_shown : (flying_row w g.client).version ≡ ver → ver ≤ h.ver
      → Shows g w.epoch (local_of (on_settled s g.block ver).state g.block) ((settles w g.client).client g.client)
  unfolding on_settled
  settled_shown row below =
      let limit : y.settled ≡ max h.settled ver = λ i. max (r.shows.settled i) (row i) in
      subst (Shows g w.epoch (local_of (on_settled s g.block ver).state g.block)) (sym (put_here w.client g.client y))
      (by_test (λ (d : Done). Shows g w.epoch (local_of d.state g.block) y) (is_settled_by h ver) (still (with_held s g.block (version_settled h ver)))
      (still s)
      (λ t. subst (λ k. Shows g w.epoch (record l { held = k }) y) (sym (held_of-put_itself g.block (version_settled h ver) s.blocks))
      (shown ver (limit ∙ now_settled h.settled ver h.ver below true t)))
      (λ t. shown h.settled (limit ∙ now_settled h.settled ver h.ver below false t)))

pub settles_blocks : SettlesBlocks
settles_blocks logs g end w s ver r may flying row below = (Settles g.client may flying, settled_shown logs g end w s ver r row below)
