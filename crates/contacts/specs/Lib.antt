pub mod Contacts
