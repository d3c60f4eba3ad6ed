-- believed: The objects of a state (own): the store that they are, the places that there are for them, and in which of them no change
-- waits.
use Rattle.std.specs.Prelude.{ℕ, ◌<◌, List, vec_capacity, vec_len}
use Rattle.grb_call.specs.declared.call.Call.{Call}
use Rattle.grb_call.specs.declared.ids.Object.{Object}
use Rattle.grb_call.specs.Store.{Store}
use Rattle.grb_states.specs.declared.objects.Objects.{Objects}
use Rattle.grb_states.specs.Operation.{AreAllOf, AreAssembled, IsAssembled}
use Rattle.grb_objects.specs.Stored.{stored}

-- the store of these objects
abbrev pub store_of : Objects → Store
store_of o = stored o.matrices.items o.vectors.items

-- for how many matrices, and for how many vectors, there are places
abbrev pub places_of : Objects → ℕ × ℕ
places_of o = (vec_capacity o.matrices, vec_capacity o.vectors)

-- there is a place for one object more of each sort
abbrev pub HasPlaces : Objects → Type 0
HasPlaces o = (vec_len o.matrices < vec_capacity o.matrices) × (vec_len o.vectors < vec_capacity o.vectors)

-- no change waits in this object, if it is there
abbrev pub IsAssembledIn : Objects → Object → Type 0
IsAssembledIn o x = IsAssembled o.matrices.items o.vectors.items x

-- nor in any of these
abbrev pub AreAllIn : Objects → List Object → Type 0
AreAllIn o xs = AreAllOf o.matrices.items o.vectors.items xs

-- nor in any that the call reads, its mask among them
abbrev pub AreOperandsIn : Objects → Call → Type 0
AreOperandsIn o c = AreAssembled o.matrices.items o.vectors.items c
