-- Between them the two example runs take every kind of step, but that logs lose what they held.
use Rattle.std.proofs.Common.{◌≡◌, ◌⊎◌, ℕ, zero, suc, List, [], ◌∷◌, drop, inl, inr, refl}
use Rattle.token_protocol.specs.Basics.{In}
use Rattle.token_protocol.specs.Kind.{Kind}
use Rattle.token_protocol.specs.Example.{example_kinds}
use Rattle.token_protocol.specs.OtherExample.{other_kinds}

-- What stands after the first n kinds of a list stands in it.
listed : (n : ℕ) (k : Kind) (ks : List Kind) → In k (drop n ks) → In k ks
listed zero k ks fact = fact
listed (suc n) k [] fact = absurd fact
listed (suc n) k (first ∷ ks) fact = inr (listed n k ks fact)

pub every_kind : (k : Kind) → (k ≡ Kind.Loses → ⊥) → In k example_kinds ⊎ In k other_kinds
every_kind Kind.Asks apart = inl (listed 32 Kind.Asks example_kinds (inl refl))
every_kind Kind.AsksAgain apart = inr (listed 1 Kind.AsksAgain other_kinds (inl refl))
every_kind Kind.DropsWant apart = inr (listed 29 Kind.DropsWant other_kinds (inl refl))
every_kind Kind.DropsFetch apart = inr (listed 30 Kind.DropsFetch other_kinds (inl refl))
every_kind Kind.Offers apart = inl (listed 33 Kind.Offers example_kinds (inl refl))
every_kind Kind.Recalls apart = inl (listed 15 Kind.Recalls example_kinds (inl refl))
every_kind Kind.WritesFirst apart = inl (listed 34 Kind.WritesFirst example_kinds (inl refl))
every_kind Kind.Declines apart = inr (listed 13 Kind.Declines other_kinds (inl refl))
every_kind Kind.TakesAbsent apart = inr (listed 3 Kind.TakesAbsent other_kinds (inl refl))
every_kind Kind.TakesSupply apart = inr (listed 27 Kind.TakesSupply other_kinds (inl refl))
every_kind Kind.TakesPlace apart = inl (listed 11 Kind.TakesPlace example_kinds (inl refl))
every_kind Kind.Fetches apart = inl (listed 12 Kind.Fetches example_kinds (inl refl))
every_kind Kind.Writes apart = inr (listed 17 Kind.Writes other_kinds (inl refl))
every_kind Kind.Reads apart = inl (listed 13 Kind.Reads example_kinds (inl refl))
every_kind Kind.Syncs apart = inr (listed 20 Kind.Syncs other_kinds (inl refl))
every_kind Kind.Evicts apart = inr (listed 5 Kind.Evicts other_kinds (inl refl))
every_kind Kind.Gives apart = inl (listed 16 Kind.Gives example_kinds (inl refl))
every_kind Kind.GivesAgain apart = inr (listed 9 Kind.GivesAgain other_kinds (inl refl))
every_kind Kind.Notes apart = inl (listed 17 Kind.Notes example_kinds (inl refl))
every_kind Kind.Applies apart = inl (listed 9 Kind.Applies example_kinds (inl refl))
every_kind Kind.Turns apart = inr (listed 11 Kind.Turns other_kinds (inl refl))
every_kind Kind.SealsWith apart = inl (listed 20 Kind.SealsWith example_kinds (inl refl))
every_kind Kind.Seals apart = inr (listed 32 Kind.Seals other_kinds (inl refl))
every_kind Kind.Settles apart = inl (listed 6 Kind.Settles example_kinds (inl refl))
every_kind Kind.CrashesDirty apart = inl (listed 35 Kind.CrashesDirty example_kinds (inl refl))
every_kind Kind.CrashesClean apart = inr (listed 31 Kind.CrashesClean other_kinds (inl refl))
every_kind Kind.RestartsAdopting apart = inl (listed 22 Kind.RestartsAdopting example_kinds (inl refl))
every_kind Kind.RestartsDiscarding apart = inl (listed 36 Kind.RestartsDiscarding example_kinds (inl refl))
every_kind Kind.Promises apart = inl (listed 27 Kind.Promises example_kinds (inl refl))
every_kind Kind.Reports apart = inl (listed 28 Kind.Reports example_kinds (inl refl))
every_kind Kind.Activates apart = inl (listed 29 Kind.Activates example_kinds (inl refl))
every_kind Kind.SealsCopy apart = inl (listed 30 Kind.SealsCopy example_kinds (inl refl))
every_kind Kind.SealsOther apart = inr (listed 33 Kind.SealsOther other_kinds (inl refl))
every_kind Kind.SettlesCopy apart = inl (listed 31 Kind.SettlesCopy example_kinds (inl refl))
every_kind Kind.DiscardsCopy apart = inr (listed 35 Kind.DiscardsCopy other_kinds (inl refl))
every_kind Kind.Loses apart = absurd (apart refl)
