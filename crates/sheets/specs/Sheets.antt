-- What a table holds, and which tables are lawful. Assumes nothing.
use Rattle.std.specs.Prelude.{Bool, true, not, ◌&&◌, List, [], ◌∷◌, ◌++◌, length, vec_items, nat_le}
use Rattle.std.specs.Str.{bytes_eq}
use Rattle.duties.specs.declared.order.Order.{Order}
use Rattle.duties.specs.Ranges.{every, order_fits}
use Rattle.names.specs.declared.name.Name.{Name}
use Rattle.names.specs.Names.{name_before, name_bytes, name_of}
use Rattle.ordered.specs.Ascending.{member}
use Rattle.text.specs.Spelling.{is_name}
use Rattle.sheets.specs.declared.table.Table.{Table}

pub record Content : Type 0 where
  pub tags : List Name
  pub points : List Name
  pub orders : List Order

abbrev pub content : Table → Content
content t = record { tags = vec_items t.tags; points = vec_items t.points; orders = vec_items t.orders }

abbrev pub blank : Content
blank = record { tags = []; points = []; orders = [] }

abbrev pub with_tag : Content → Name → Content
with_tag t n = record { tags = t.tags ++ n ∷ []; points = t.points; orders = t.orders }

abbrev pub with_point : Content → Name → Content
with_point t n = record { tags = t.tags; points = t.points ++ n ∷ []; orders = t.orders }

abbrev pub with_order : Content → Order → Content
with_order t o = record { tags = t.tags; points = t.points; orders = t.orders ++ o ∷ [] }

-- well-formed, not reserved, and filled up with zeros
abbrev pub good_name : Name → Bool
good_name n = is_name (name_bytes n) && bytes_eq n.bytes (name_of (name_bytes n)).bytes

-- no name stands twice
abbrev pub apart : List Name → Bool
apart [] = true
apart (n ∷ ns) = not (member name_before n ns) && apart ns

-- at most 64 tags, 64 points and 128 orders; good names, no two alike over both kinds; and orders within what is declared
abbrev pub lawful : Content → Bool
lawful t =
    nat_le (length t.tags) 64
    && (nat_le (length t.points) 64
    && (nat_le (length t.orders) 128
    && (every good_name t.tags
    && (every good_name t.points
    && (apart (t.tags ++ t.points)
    && every (order_fits (length t.tags) (length t.points)) t.orders)))))
