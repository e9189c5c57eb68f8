-- A run of the small world of tokens whose logs keep their word is one of those whose logs may lose what they held: so a moment of a run that stands to the one
-- stands to the other.
use Rattle.std.proofs.Common.{⊎_elim, ℕ, true, false, List, inl, inr}
use Rattle.client_node.specs.declared.phase.Phase.{Phase}
use Rattle.client_node.specs.declared.phase.Phase.TheVariants.{Down, Opening, Serving as Serves}
use Rattle.core_world.specs.declared.any_node.AnyNode.{AnyNode}
use Rattle.node_slots.proofs.node_tie.SmallWorld.{with_promise}
use Rattle.node_slots.specs.node_tie.ClientEvents.{ClientAgrees}
use Rattle.node_slots.specs.node_tie.RegistryEvents.{RegistrySound}
use Rattle.token_law.specs.Net.{Happens, IsServing, Net, Runs, opening}
use Rattle.token_law.specs.Net.Happens.{Acts, Elsewhere, Reports, GetsCopy, GetsOwn, Declines, GetsRecall, GetsForward, GetsSupply, Fetches, Reads, Syncs, Seals, Files, GetsDeltas, GetsWant, GetsGave, Ticks, Crashes, Returns, SealsCopies, FilesCopies, Reopens, Activates, Says}
use Rattle.token_law.specs.Net.Runs.{Begun, On}
use Rattle.version_model.specs.declared.act.Act.{Act}
use Rattle.wire_msg.specs.declared.packet.Packet.{Packet}
use Rattle.world_base.specs.declared.cluster.Cluster.{Cluster}
use Rattle.run_laws.specs.world_law.Standing.{Scene, Stands, members}

-- ---- runs

module _ (size part : ℕ) where
  serving_so : (n : Net) (c end : ℕ) → IsServing true size n c end → IsServing false size n c end
  serving_so n c end s = record { some = s.some; within = s.within; up = s.up; end_is = tt }

  happens_so : (n m : Net) → Happens true size part n m → Happens false size part n m
  happens_so n m (Acts c end i serves own) = Acts c end i (serving_so n c end serves) own
  happens_so n m (Elsewhere c end i serves other) = Elsewhere c end i (serving_so n c end serves) other
  happens_so n m (Reports c end serves) = Reports c end (serving_so n c end serves)
  happens_so n m (GetsCopy c end block stamp inc req entry serves fact) = GetsCopy c end block stamp inc req entry (serving_so n c end serves) fact
  happens_so n m (GetsOwn c end block stamp inc req entry value serves fact accepts room) =
      GetsOwn c end block stamp inc req entry value (serving_so n c end serves) fact accepts room
  happens_so n m (Declines c end block stamp inc req entry serves fact accepts) =
      Declines c end block stamp inc req entry (serving_so n c end serves) fact accepts
  happens_so n m (GetsRecall c end block stamp keep serves fact) = GetsRecall c end block stamp keep (serving_so n c end serves) fact
  happens_so n m (GetsForward c other block stamp inc req ver value pos less fact up serves held) =
      GetsForward c other block stamp inc req ver value pos less fact up serves held
  happens_so n m (GetsSupply c end block stamp inc req ver value serves fact) =
      GetsSupply c end block stamp inc req ver value (serving_so n c end serves) fact
  happens_so n m (Fetches c end block value serves there) = Fetches c end block value (serving_so n c end serves) tt
  happens_so n m (Reads c block value pos less up holds held) = Reads c block value pos less up holds held
  happens_so n m (Syncs c pos less up clean) = Syncs c pos less up tt
  happens_so n m (Seals c rows pos less up idle newest) = Seals c rows pos less up tt tt
  happens_so n m (Files c pos less up flies) = Files c pos less up tt
  happens_so n m (GetsDeltas e s log first upto rows at known some covers) = GetsDeltas e s log first upto rows at known tt tt
  happens_so n m (GetsWant e s c inc req again block mode end at fact) = GetsWant e s c inc req again block mode end at fact
  happens_so n m (GetsGave e s c block stamp end at fact) = GetsGave e s c block stamp end at fact
  happens_so n m (Ticks e s at) = Ticks e s at
  happens_so n m (Crashes c flight falls pos less up once so) = Crashes c flight falls pos less up once tt
  happens_so n m (Returns c inc epochs chain count pos less up later rises flies) = Returns c inc epochs chain count pos less up later rises tt
  happens_so n m (SealsCopies l rows above idle copies) = SealsCopies l rows above tt tt
  happens_so n m (FilesCopies l above flies) = FilesCopies l above tt
  happens_so n m (Reopens l adopted count above flies) = Reopens l adopted count above tt
  happens_so n m (Activates e index applied rows ends order none all each sent gathered) =
      Activates e index applied rows ends order none all each sent tt
  happens_so n m (Says a neutral) = Says a neutral

  runs_so : (n m : Net) → Runs true size part n m → Runs false size part n m
  runs_so n m Begun = Begun
  runs_so n m (On {m = o} runs last) = On (runs_so n o runs) (happens_so o m last)

-- ---- moments

module _ (part : ℕ) where
  client_so : (c : ℕ) (n : Net) (p : Phase) → ClientAgrees true part c n p → ClientAgrees false part c n p
  client_so c n (Down l) a = record { up = a.up; number = a.number; inc = a.inc; beyond = tt }
  client_so c n (Opening l o) a = record {
    up = a.up;
    number = a.number;
    inc = a.inc;
    owner = a.owner;
    promised = ⊎_elim inl (λ r. inr (record { epochs = r.epochs; rises = r.rises })) a.promised;
    beyond = tt;
  }
  client_so c n (Serves s) a = record {
    up = a.up;
    tokens = a.tokens;
    number = a.number;
    inc = a.inc;
    epochs = a.epochs;
    giving = a.giving;
    valued = a.valued;
    logged = tt;
  }

  pub unlogged : (k : Cluster) (nodes : List AnyNode) (sent : List Packet) (acts : List Act) (s : Scene) → Stands true k part nodes sent acts RegistrySound s
      → Stands false k part nodes sent acts RegistrySound s
  unlogged k nodes sent acts s st = record {
    runs = runs_so (members k part) part opening (with_promise 1 s.net) st.runs;
    acts = st.acts;
    placed = st.placed;
    sound = st.sound;
    clients = λ c some less. let a = st.clients c some less in (client_so c s.net (s.client c).phase a.0, a.1);
    managers = st.managers;
    cleaner = st.cleaner;
    copies = tt;
    few = st.few;
    peers = st.peers;
    current = st.current;
    some = st.some;
    before = st.before;
    entered = st.entered;
    facts = st.facts;
  }
