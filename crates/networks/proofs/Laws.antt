-- Numbers: the numbers of the grammar as they are read.
pub mod Numbers
-- Readings: what was read, and what is made of it.
pub mod Readings
-- Octets: an octet read digit by digit.
pub mod Octets
-- Fronts: four octets from a place on, against an ip4-network that begins there.
pub mod Fronts
-- Ip4: an ip4-network's text is exactly what is read as one.
pub mod Ip4
-- Lengths: the same of the texts of prefix lengths.
pub mod Lengths
-- HexNumbers: the numbers that hex digits write.
pub mod HexNumbers
-- Colons: the first colon of a text, and the first "::".
pub mod Colons
-- GroupOctets: groups as octets, and the address of eight groups.
pub mod GroupOctets
-- RowWriting: the octets of rows as the code writes them.
pub mod RowWriting
-- AddressWriting: the address of a text's groups as the code makes it of octets.
pub mod AddressWriting
-- Rows: rows of groups, the reader against the productions.
pub mod Rows
-- Ip6: IPv6 networks, the reader against the productions.
pub mod Ip6
-- Addresses: the same of addresses of either family.
pub mod Addresses
-- Plain: the bytes of networks and prefix lengths.
pub mod Plain
-- Beginnings: what networks and prefix lengths begin with.
pub mod Beginnings
-- Ranges: the address that a text writes is in range.
pub mod Ranges
