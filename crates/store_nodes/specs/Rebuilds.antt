-- What a server does for a rebuild of its shelf that is under way.
use Rattle.std.specs.Prelude.{ℕ, Bool, false, ◌==◌, if◌then◌else◌, List, [], ◌∷◌, Option, Some, None}
use Rattle.version_model.specs.declared.answer.Answer.TheVariants.{Rebuilt}
use Rattle.wire_msg.specs.declared.body.Body.TheVariants as body
use Rattle.wire_msg.specs.declared.storage.Found.{Found}
use Rattle.wire_msg.specs.declared.storage.Listed.{Listed}
use Rattle.wire_msg.specs.declared.storage.Missing.{Missing}
use Rattle.xfs_base.specs.declared.node.NodeId.TheVariants.{Server}
use Rattle.xfs_base.specs.declared.segment.SegName.{SegName}
use Rattle.xfs_base.specs.Steps.{Stepped, still, steps}
use Rattle.node_base.specs.declared.effects.Effect.{Effect}
use Rattle.node_base.specs.declared.effects.Effect.TheVariants.{Send}
use Rattle.node_base.specs.Asking.{number_for, asked_as, drawn_for, own_of}
use Rattle.node_base.specs.Beginning.{items_answer, answers_unanswered}
use Rattle.fragment_store.specs.Calls.{on_fill, barred}
use Rattle.group_rebuild.specs.Transition.{transition}
use Rattle.group_rebuild.specs.declared.input.In.{In}
use Rattle.group_rebuild.specs.declared.input.In.TheVariants as input
use Rattle.group_rebuild.specs.declared.output.Out.{Out}
use Rattle.group_rebuild.specs.declared.output.Out.TheVariants as out
use Rattle.store_nodes.specs.declared.server.Rebuilding.{Rebuilding}
use Rattle.store_nodes.specs.declared.server.Server.{Server as Node}
pub use Rattle.node_base.specs.Nodes.{server_in}

-- the server after an event, and what it does
abbrev pub Done : Type 0
Done = Stepped Node Effect

-- ---- what the rebuild says

abbrev pub ask_list : Option Rebuilding → ℕ → List Effect
ask_list None server = []
ask_list (Some r) server = Send (Server server) (body.List (record { ask = r.lists })) ∷ []

-- a round asks under one question of the server's
abbrev pub ask_fragment : Node → Option Rebuilding → ℕ → SegName → ℕ → Done
ask_fragment node None server name own = still node
ask_fragment node (Some r) server name own =
    record {
      state = record node {
        questions = drawn_for r.fetches node.questions own;
        rebuilding = Some (record r { fetches = asked_as r.fetches node.questions own });
      };
      outs = Send (Server server) (body.Fetch (record { name = name; ask = number_for r.fetches node.questions own })) ∷ [];
    }

unfoldable pub says : Node → Out → Done
says node (out.List server) = record { state = node; outs = ask_list node.rebuilding server }
says node (out.Fetch server name own) = ask_fragment node node.rebuilding server name own
says node (out.Fill fragment) = still (record node { shelf = on_fill node.shelf fragment })
says node (out.Finished filled gone) =
    record { state = record node { rebuilding = None; items = items_answer node.items }; outs = answers_unanswered node.items.unanswered (Rebuilt filled gone) }

abbrev pub goes_on : Node → Option Rebuilding → In → Done
goes_on node None given = still node
goes_on node (Some r) given =
    steps says (record node { rebuilding = Some (record r { rebuild = (transition r.rebuild given).state }) }) (transition r.rebuild given).outs

-- the rebuild that is under way takes an input, and what it says is done
unfoldable pub rebuilds : Node → In → Done
rebuilds node given = goes_on node node.rebuilding given

-- ---- what comes for it

abbrev pub awaits_list : Option Rebuilding → ℕ → Bool
awaits_list None ask = false
awaits_list (Some r) ask = r.lists == ask

-- the rebuild's number of the question that is answered
abbrev pub fetch_of : Option Rebuilding → ℕ → Option ℕ
fetch_of None ask = None
fetch_of (Some r) ask = own_of r.fetches ask

unfoldable pub on_listed : Node → Option ℕ → Listed → Done
on_listed node None listed = still node
on_listed node (Some server) listed =
    if awaits_list node.rebuilding listed.ask then rebuilds node (input.Listed server listed.held (barred node.shelf)) else still node

abbrev pub found_for : Node → ℕ → Found → Option ℕ → Done
found_for node server found None = still node
found_for node server found (Some own) = rebuilds node (input.Got own server found.generation found.fragment)

unfoldable pub on_found : Node → Option ℕ → Found → Done
on_found node None found = still node
on_found node (Some server) found = found_for node server found (fetch_of node.rebuilding found.ask)

abbrev pub missing_for : Node → ℕ → Missing → Option ℕ → Done
missing_for node server missing None = still node
missing_for node server missing (Some own) = rebuilds node (input.Missing own server missing.generation)

unfoldable pub on_missing : Node → Option ℕ → Missing → Done
on_missing node None missing = still node
on_missing node (Some server) missing = missing_for node server missing (fetch_of node.rebuilding missing.ask)
