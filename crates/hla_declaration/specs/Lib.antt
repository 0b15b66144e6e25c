-- The entries of a list, by number
pub mod Entries
-- What one federate declares
pub mod Members
-- What contracts see of declarations: the federates' lists
pub mod Lists
-- What the federates of an execution publish and subscribe (HLA 1.3, declaration management)
pub mod Declarations
-- Who receives what is sent of a class, and at which class
pub mod Receivers
-- Who subscribes each class, as sets of federates
pub mod Subscribers
