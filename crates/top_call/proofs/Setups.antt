-- A script that some bytes spell has a setup of which a run can be started.
use Rattle.std.proofs.Common.{◌≡◌, ◌≢◌, ◌⊎◌, ℕ, ◌+◌, ◌<◌, ◌≤◌, ◌^◌, true, false, cond, not, nat_eq, List, [], ◌∷◌, length, refl, sym, ap, ◌∙◌, inl, inr, arith}
use Rattle.std.specs.Prelude.{All, None, Some, find, nat_le}
use Rattle.std.specs.List.{IsDistinct, AllByRecursion}
use Rattle.std.specs.Option.{option_map}
use Rattle.std.proofs.lemmas.Bool.{and_from, le-leb, ne_eqb}
use Rattle.std.proofs.lemmas.List.Elements.{All-from_recursion}
use Rattle.group_map.specs.Sizes.{IsParity, is_group_size}
use Rattle.group_map.specs.WellFormed.{IsServer}
use Rattle.node_base.specs.Setups.{IsSetup}
use Rattle.xfs_base.specs.declared.setup.GroupSetup.{GroupSetup}
use Rattle.script_text.specs.declared.script.Script.{Script}
use Rattle.script_text.specs.Lines.{lines}
use Rattle.script_text.specs.Script.{AreDifferent}
use Rattle.script_print.specs.Printing.{IsScript}
use Rattle.script_print.proofs.Asks.{lines_lack}
use Rattle.script_print.proofs.Extracts.{IsSetup as IsWithin, IsNamed, AreNamed, script_whole}

-- the setup is within the limits of a text
setup_within : (s : Script) → IsScript s → IsWithin s.setup
setup_within s (live, bytes, h) = (script_whole live (length bytes) (lines bytes) s (lines_lack bytes) h).setup

-- ---- a group that a line can name

all_known : (servers : ℕ) (ns : List ℕ) → AllByRecursion (λ n. (n < 2 ^ 32) × (1 ≤ n) × (n ≤ servers)) ns → AllByRecursion (IsServer servers) ns
all_known servers [] h = tt
all_known servers (n ∷ ns) h = ((h.0.1, h.0.2), all_known servers ns h.1)

none_equal : (n : ℕ) (ns : List ℕ) → AllByRecursion (λ m. m ≢ n) ns → AllByRecursion (λ m. nat_eq n m ≡ false) ns
none_equal n [] h = tt
none_equal n (m ∷ ns) h = (ne_eqb n m (λ e. h.0 (sym e)), none_equal n ns h.1)

distinct : (ns : List ℕ) → AreDifferent ns → IsDistinct nat_eq ns
unfolding IsDistinct
distinct [] h = tt
distinct (n ∷ ns) h = (none_equal n ns h.0, distinct ns h.1)

one_or_two : (parity : ℕ) → (parity ≡ 1) ⊎ (parity ≡ 2) → IsParity parity
one_or_two parity (inl e) = (omega (arith, e), omega (arith, e))
one_or_two parity (inr e) = (omega (arith, e), omega (arith, e))

sized : (servers : ℕ) (g : GroupSetup) → IsNamed servers g → is_group_size g.parity (length g.servers) ≡ true
sized servers g h =
    and_from (nat_le (g.parity + 2) (length g.servers)) (nat_le (length g.servers) 8) (le-leb (g.parity + 2) (length g.servers) h.0.enough)
    (le-leb (length g.servers) 8 h.0.few)

-- ---- all groups of a setup

module _ (servers : ℕ) where
  each_exists : (gs : List GroupSetup) → AreNamed servers gs → AllByRecursion (λ g. All (IsServer servers) g.servers) gs
  each_exists [] h = tt
  each_exists (g ∷ gs) h = (All-from_recursion (IsServer servers) g.servers (all_known servers g.servers h.0.0.known), each_exists gs h.1)

  each_differs : (gs : List GroupSetup) → AreNamed servers gs → AllByRecursion (λ g. IsDistinct nat_eq g.servers) gs
  each_differs [] h = tt
  each_differs (g ∷ gs) h = (distinct g.servers h.0.0.differ, each_differs gs h.1)

  each_parity : (gs : List GroupSetup) → AreNamed servers gs → AllByRecursion (λ g. IsParity g.parity) gs
  each_parity [] h = tt
  each_parity (g ∷ gs) h = (one_or_two g.parity h.0.1, each_parity gs h.1)

  none_bad : (gs : List GroupSetup) → AreNamed servers gs → find (λ g. not (is_group_size g.parity (length g.servers))) gs ≡ None
  none_bad [] h = refl
  none_bad (g ∷ gs) h = ap (λ b. cond (not b) (Some g) (find (λ x. not (is_group_size x.parity (length x.servers))) gs)) (sized servers g h.0) ∙ none_bad gs h.1

  groups_exist : (gs : List GroupSetup) → AreNamed servers gs → All (λ g. All (IsServer servers) g.servers) gs
  groups_exist gs h = All-from_recursion (λ g. All (IsServer servers) g.servers) gs (each_exists gs h)

  groups_differ : (gs : List GroupSetup) → AreNamed servers gs → All (λ g. IsDistinct nat_eq g.servers) gs
  groups_differ gs h = All-from_recursion (λ g. IsDistinct nat_eq g.servers) gs (each_differs gs h)

  groups_parity : (gs : List GroupSetup) → AreNamed servers gs → All (λ g. IsParity g.parity) gs
  groups_parity gs h = All-from_recursion (λ g. IsParity g.parity) gs (each_parity gs h)

  no_bad_size : (gs : List GroupSetup) → AreNamed servers gs
      → option_map (λ g. length g.servers) (find (λ g. not (is_group_size g.parity (length g.servers))) gs) ≡ None
  no_bad_size gs h = ap (λ found. option_map (λ g. length g.servers) found) (none_bad gs h)

-- such a setup is one of which a run can be started
pub script_setup : (s : Script) → IsScript s → IsSetup s.setup
script_setup s fact =
    let h = setup_within s fact in
    record {
      clients = h.clients;
      managers = h.managers;
      servers = h.servers;
      cache = h.cache;
      count = (omega (arith, h.some), h.few);
      exist = groups_exist s.setup.servers s.setup.groups h.groups;
      differ = groups_differ s.setup.servers s.setup.groups h.groups;
      parity = groups_parity s.setup.servers s.setup.groups h.groups;
      sizes = no_bad_size s.setup.servers s.setup.groups h.groups;
    }
