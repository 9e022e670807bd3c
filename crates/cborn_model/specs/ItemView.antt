-- The item of the data model that an `Item` is seen as.
use Rattle.cborn_model.specs.Common.{string_bytes}
use Rattle.cborn_model.specs.Value.{Value, integer, bytes, text, array, dict, tagged, simple, values_of, pairs_of}
use Rattle.cborn_model.specs.declared.items.Item.{Item}
use Rattle.cborn_model.specs.declared.items.Item.TheVariants.{Int, Bytes, Text, Items, Pairs, Tagged, Simple}

abbrev pub item_value : Item → Value
item_value (Int negative magnitude) = integer negative magnitude
item_value (Bytes b) = bytes b
item_value (Text t) = text (string_bytes t)
item_value (Items items) = array (values_of items)
item_value (Pairs pairs) = dict (pairs_of pairs)
item_value (Tagged n item) = tagged n item
item_value (Simple n) = simple n

abbrev pub pair_value : Item × Item → Value × Value
pair_value p = (item_value p.0, item_value p.1)
