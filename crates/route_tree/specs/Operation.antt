-- The operations by number, and whether two are the same.
use Rattle.std.specs.Prelude.{◌≡◌, ℕ, zero, suc, Bool, refl, nat_eq}
use Rattle.mc_types.specs.declared.ask.Op.{Op}
use Rattle.mc_types.specs.declared.ask.Op.TheVariants.{Get, Gat, Set, Add, Replace, Append, Prepend, Cas, Delete, Incr, Decr, Touch}

-- the number of an operation
abbrev pub op_number : Op → ℕ
op_number Get = 0
op_number Gat = 1
op_number Set = 2
op_number Add = 3
op_number Replace = 4
op_number Append = 5
op_number Prepend = 6
op_number Cas = 7
op_number Delete = 8
op_number Incr = 9
op_number Decr = 10
op_number Touch = 11

-- the operation of a number
abbrev pub op_at : ℕ → Op
op_at zero = Get
op_at (suc zero) = Gat
op_at (suc (suc zero)) = Set
op_at (suc (suc (suc zero))) = Add
op_at (suc (suc (suc (suc zero)))) = Replace
op_at (suc (suc (suc (suc (suc zero))))) = Append
op_at (suc (suc (suc (suc (suc (suc zero)))))) = Prepend
op_at (suc (suc (suc (suc (suc (suc (suc zero))))))) = Cas
op_at (suc (suc (suc (suc (suc (suc (suc (suc zero)))))))) = Delete
op_at (suc (suc (suc (suc (suc (suc (suc (suc (suc zero))))))))) = Incr
op_at (suc (suc (suc (suc (suc (suc (suc (suc (suc (suc zero)))))))))) = Decr
op_at _ = Touch

-- each operation is the one of its number
pub op_back : (op : Op) → op_at (op_number op) ≡ op
op_back Get = refl
op_back Gat = refl
op_back Set = refl
op_back Add = refl
op_back Replace = refl
op_back Append = refl
op_back Prepend = refl
op_back Cas = refl
op_back Delete = refl
op_back Incr = refl
op_back Decr = refl
op_back Touch = refl

-- the two are one operation
abbrev pub same_op : Op → Op → Bool
same_op a b = nat_eq (op_number a) (op_number b)
