-- What a client acts: its fall names blocks that are dirty, and nothing else that it does is a fall.
use Rattle.std.proofs.Common.{◌≡◌, ⊎_elim, ℕ, true, List, [], ◌∷◌, filter, map, ap, ◌∙◌}
use Rattle.std.specs.Map.{keys_of}
use Rattle.std.specs.Prelude.{All}
use Rattle.std.proofs.lemmas.List.Elements.{All-weaker}
use Rattle.client_node.specs.declared.phase.Phase.{Phase}
use Rattle.client_node.specs.Crash.{fall_of}
use Rattle.client_serving.specs.declared.serving.Serving.{Serving}
use Rattle.node_base.specs.declared.effects.Effect.{Effect}
use Rattle.node_base.specs.declared.effects.Effect.TheVariants.{Send, Answer, Lose, Does}
use Rattle.token_client.proofs.Promises.{Agrees, agrees-itself}
use Rattle.token_client.proofs.Tables.{InOrder}
use Rattle.token_client.specs.declared.held.Held.{Held}
use Rattle.token_client.specs.Held.{is_dirty}
use Rattle.token_client.specs.State.{dirty_in, held_of}
use Rattle.token_law.specs.Net.{Net, Packet}
use Rattle.token_protocol.specs.Basics.{In}
use Rattle.version_model.specs.declared.act.Act.{Act}
use Rattle.version_model.specs.declared.act.Act.TheVariants as act
use Rattle.version_model.specs.declared.act.Fall.{Fall}
use Rattle.xfs_base.proofs.Booleans.{by_test}
use Rattle.xfs_base.specs.declared.block.BlockId.{BlockId}
use Rattle.node_slots.specs.node_tie.ClientEvents.{ClientActs, ClientDid}
use Rattle.node_slots.proofs.node_tie.Sight.{ClientDoes, IsNoFall}

module _ (part c : ℕ) (n : Net) (sent : List Packet) (life : ℕ) (q : Phase) where
  no_fall_acts : (a : Act) → IsNoFall a → ClientActs part c n sent life q a
  no_fall_acts (act.Fell client flight falls) h = absurd h
  no_fall_acts _ h = tt

  did : (e : Effect) → ClientDoes part sent c life e → ClientDid part c n sent life q e
  did (Send to m) h = h
  did (Answer item answer) h = tt
  did (Lose seg) h = tt
  did (Does a) h = no_fall_acts a h

  -- what a client may do but fall, it did
  pub all_did : (es : List Effect) → All (ClientDoes part sent c life) es → All (ClientDid part c n sent life q) es
  all_did es h = All-weaker (ClientDoes part sent c life) (ClientDid part c n sent life q) did es h

-- the blocks with which a client falls are dirty
falls_among : (s : Serving) (table es : List (BlockId × Held)) → Agrees table es → (f : Fall) → In f (map (fall_of s) (dirty_in es))
    → is_dirty (held_of table f.block) ≡ true
unfolding fall_of
falls_among s table [] agrees f fact = absurd fact
falls_among s table (e ∷ es) agrees f fact =
    let rows = filter (λ (x : BlockId × Held). is_dirty x.1) es in
    by_test (λ (xs : List (BlockId × Held)). In f (map (fall_of s) (keys_of xs)) → is_dirty (held_of table f.block) ≡ true) (is_dirty e.1) (e ∷ rows) rows
    (λ dirty fact. ⊎_elim (λ same. ap (λ (x : Fall). is_dirty (held_of table x.block)) same ∙ (ap is_dirty agrees.0 ∙ dirty))
    (λ later. falls_among s table es agrees.1 f later) fact)
    (λ clean fact. falls_among s table es agrees.1 f fact) fact

pub falls_dirty : (s : Serving) → InOrder s.tokens.blocks → (f : Fall) → In f (map (fall_of s) (dirty_in s.tokens.blocks))
    → is_dirty (held_of s.tokens.blocks f.block) ≡ true
falls_dirty s sorted f fact = falls_among s s.tokens.blocks s.tokens.blocks (agrees-itself s.tokens.blocks sorted) f fact
