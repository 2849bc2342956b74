-- What is printed of a fault, after `config: `. Source: mcgate's own.
use Rattle.std.specs.Prelude.{ℕ, List, ◌++◌, codes, string_bytes}
use Rattle.route_json.specs.declared.fault.ConfigFault.{ConfigFault}
use Rattle.route_json.specs.declared.fault.ConfigFault.TheVariants.{NotJson, BadField, BadAddress, EmptyPool, TooManyServers, TooManySlots, TooDeep, TooManyNodes, UnknownType, NoPool, EmptyChildren, BadPrefix, NoMemory}
use Rattle.text_words.specs.Escapes.{escaped}

-- the words of a fault, with its name or text escaped
abbrev pub fault_line : ConfigFault → List ℕ
fault_line NotJson = codes "not JSON"
fault_line (BadField name) = codes "bad field " ++ escaped (string_bytes name)
fault_line (BadAddress text) = codes "bad address " ++ escaped (string_bytes text)
fault_line (EmptyPool name) = codes "empty pool " ++ escaped (string_bytes name)
fault_line (TooManyServers name) = codes "too many servers in " ++ escaped (string_bytes name)
fault_line (TooManySlots name) = codes "too many slots in " ++ escaped (string_bytes name)
fault_line TooDeep = codes "too deep"
fault_line TooManyNodes = codes "too many routes"
fault_line (UnknownType name) = codes "unknown route " ++ escaped (string_bytes name)
fault_line (NoPool name) = codes "no pool " ++ escaped (string_bytes name)
fault_line EmptyChildren = codes "no children"
fault_line (BadPrefix text) = codes "bad prefix " ++ escaped (string_bytes text)
fault_line NoMemory = codes "out of memory"
